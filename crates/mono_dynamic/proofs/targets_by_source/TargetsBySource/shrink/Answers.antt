use Rattle.std.proofs.Common.{ap}
use Rattle.mono_dynamic.specs.Targets.{Targets, IsShrunkRow}
use Rattle.mono_dynamic.proofs.Lacking.{sized_by}
use Rattle.mono_dynamic.proofs.targets_by_source.TargetsBySource.shrink.Goals as goal

pub invariant_of-self : goal.invariant_of-self
invariant_of-self c =
    sized_by (IsShrunkRow c.args.graph.now c.args.places.now c.args.number) c.self.inside.room c.self.inside.rows.items c.shrink_each.new.rows.items (λ a b is. ap (λ (r : Targets). r.ways.tree.nodes) is.same) c.shrink_each.ensures c.self.invariant
