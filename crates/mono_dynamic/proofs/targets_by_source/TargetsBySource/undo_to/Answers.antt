use Rattle.std.proofs.Common.{ap}
use Rattle.mono_dynamic.specs.Targets.{IsUndoneRow}
use Rattle.mono_dynamic.specs.Ways.{Ways}
use Rattle.mono_dynamic.proofs.Lacking.{sized_by}
use Rattle.mono_dynamic.proofs.targets_by_source.TargetsBySource.undo_to.Goals as goal

pub invariant_of-self : goal.invariant_of-self
invariant_of-self c =
    sized_by (IsUndoneRow c.args.kept) c.self.inside.room c.self.inside.rows.items c.undo_each.new.rows.items (λ a b is. ap (λ (w : Ways). w.tree.nodes) is.ways) c.undo_each.ensures c.self.invariant
