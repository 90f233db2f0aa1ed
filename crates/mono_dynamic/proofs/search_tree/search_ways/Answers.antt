use Rattle.std.proofs.Common.{ℕ, ◌<◌, Bool, List, ap, sym, subst}
use Rattle.std.specs.Prelude.{All, Option}
use Rattle.mono_dynamic.specs.Costs.{Costs}
use Rattle.mono_dynamic.specs.Reached.{Reached}
use Rattle.mono_dynamic.specs.SearchTrees.{IsSearchTree}
use Rattle.mono_dynamic.specs.Ways.{labels_in, searched_part, ways_of, IsLight}
use Rattle.mono_dynamic.proofs.Lightest.{asked_inside, targets_stay, ways_found}
use Rattle.mono_dynamic.proofs.search_tree.search_ways.Goals as goal

pub search-requires-clause-targets : goal.search-requires-clause-targets
search-requires-clause-targets c =
    subst (λ (vs : List ℕ). All (λ v. v < c.args.graph.now.nodes) vs) (sym c.as_slice.ensures.value)
    (asked_inside (ways_of c.args.kept.now c.args.costs.now) c.args.targets.now (labels_in c.lightest_part.new.costs) c.in_ok-nodes.nodes.items c.args.graph.now.nodes c.requires.targets c.in_ok-nodes.ensures (ap (λ (r : Reached). r.nodes) c.requires.kept))

pub returns-clause-ways : goal.returns-clause-ways
returns-clause-ways c =
    let costs : Option Costs = c.lightest_part.new.costs in
    ways_found c.args.graph.now c.args.part.now c.searched.result.now c.args.targets.now c.in_ok-nodes.nodes.items c.args.kept.now c.search.new.tree costs
    (subst (λ (T : List Bool). IsLight c.args.graph.now c.args.part.now T c.args.kept.now.source costs) (sym c.searched.ensures)
    (subst (λ (u : ℕ). IsLight c.args.graph.now c.args.part.now (searched_part c.args.part.now c.in_ok-light.light) u costs) c.source-source.ensures.source c.in_ok-light.ensures.light))
    c.in_ok-nodes.ensures
    (targets_stay c.args.kept.now c.args.costs.now costs c.args.targets.now c.lightest_part.ensures.limit c.lightest_part.ensures.cap c.requires.targets)
    (ap (λ (r : Reached). r.nodes) c.requires.kept) c.search.ensures.source
    (subst (λ (vs : List ℕ). IsSearchTree c.args.graph.now c.searched.result.now c.args.kept.now.source vs c.search.new.tree.arrivals) c.as_slice.ensures.value c.search.ensures.tree)
