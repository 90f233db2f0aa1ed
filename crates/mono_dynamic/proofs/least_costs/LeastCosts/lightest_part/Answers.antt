use Rattle.std.proofs.Common.{ℕ, ◌<◌, ◌≤◌, List, length, subst, arith}
use Rattle.mono_graph.specs.Digraph.{no_edge}
use Rattle.mono_dynamic.specs.declared.change.Change.{Change}
use Rattle.mono_dynamic.specs.Costs.{Costs, label_of, IsLast}
use Rattle.mono_dynamic.proofs.Lightest.{lightest_found}
use Rattle.mono_dynamic.proofs.least_costs.LeastCosts.lightest_part.Goals as goal

pub returns : goal.returns
returns c =
    let inv = c.loop-change.invariant in
    let past : length c.changes-change-items.result.now ≤ c.loop-change.change-index = (let all = c.loop-change-test.false in omega arith) in
    let all : length c.args.self.now.changes ≤ c.loop-change.change-index =
    subst (λ (t : Costs). length t.changes ≤ c.loop-change.change-index) c.self.view_is (subst (λ (cs : List Change). length cs ≤ c.loop-change.change-index) c.changes-change-items.ensures.changes past) in
    let last = subst (λ (t : Costs). (v : ℕ) → v < length t.labels → (x : ℕ) × IsLast t.changes (length t.changes) v (label_of t.labels v) x) c.self.view_is c.changes-change-items.ensures.last in
    lightest_found c.args.graph.now c.args.part.now c.loop-change.light c.args.source c.loop-change.change-index c.args.self.now (record { from = λ k lt. (c.known.ensures.graph.ends k no_edge lt).0 }) c.requires.from
    last all inv.len inv.only inv.source inv.each
