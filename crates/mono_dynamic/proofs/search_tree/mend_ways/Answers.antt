use Rattle.std.proofs.Common.{ℕ, ◌<◌, List, [], None, sym, subst}
use Rattle.std.specs.Prelude.{All}
use Rattle.mono_dynamic.specs.Mending.{IsMendedTree}
use Rattle.mono_dynamic.specs.Ways.{ways_of}
use Rattle.mono_dynamic.proofs.Lightest.{asked_inside, light_of_all, ways_reached}
use Rattle.mono_dynamic.proofs.search_tree.mend_ways.Goals as goal

pub mend-requires-clause-targets : goal.mend-requires-clause-targets
mend-requires-clause-targets c =
    subst (λ (vs : List ℕ). All (λ v. v < c.args.graph.now.nodes) vs) (sym c.as_slice.ensures.value)
    (asked_inside (ways_of c.args.kept.now None) c.args.targets.now [] c.in-Ok.nodes.items c.args.graph.now.nodes c.requires.targets c.in-Ok.ensures c.requires.size)

pub returns-in-Ok-clause-ways : goal.returns-in-Ok-clause-ways
returns-in-Ok-clause-ways c =
    ways_reached c.args.graph.now c.args.part.now c.args.part.now c.args.targets.now c.in-Ok.nodes.items c.args.kept.now c.mend.new.tree None (light_of_all c.args.graph.now c.args.part.now c.args.kept.now.source) c.in-Ok.ensures
    c.requires.targets c.requires.size c.mend.ensures.source
    (subst (λ (vs : List ℕ). IsMendedTree c.args.graph.now c.args.part.now c.args.kept.now.source vs c.mend.new.tree.arrivals) c.as_slice.ensures.value c.mend.ensures.tree)
