use Rattle.std.proofs.Common.{ℕ, sym, subst}
use Rattle.mono_graph.specs.Digraph.{no_edge}
use Rattle.mono_graph.specs.declared.limit.Limit.{Limit}
use Rattle.mono_dynamic.specs.Costs.{Costs, AreLeast}
use Rattle.mono_dynamic.proofs.Lightest.{light_of_least}
use Rattle.mono_dynamic.proofs.search_tree.lightest_part.Goals as goal

pub returns-in_ok-light-in-Some-clause-light : goal.returns-in_ok-light-in-Some-clause-light
returns-in_ok-light-in-Some-clause-light c =
    let now : Costs = c.search.new.self in
    let found = c.in_ok-search-in-Some.ensures in
    light_of_least c.args.graph.now c.args.part.now c.in_ok-light-in-Some.light c.args.source now (record { from = λ k lt. (c.known.ensures.graph.ends k no_edge lt).0 })
    (subst (λ (l : Limit). AreLeast c.args.graph.now c.args.part.now l c.args.source now.cap now.labels) (sym found.limit)
    (subst (λ (n : ℕ). AreLeast c.args.graph.now c.args.part.now c.in-Some.costs.limit c.args.source n now.labels) (sym found.cap) found.least))
    c.in_ok-light-in-Some.ensures
