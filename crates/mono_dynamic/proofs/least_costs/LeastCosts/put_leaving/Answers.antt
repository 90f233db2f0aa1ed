use Rattle.std.proofs.Common.{ℕ, ◌<◌, List, sym, subst, arith}
use Rattle.std.specs.Prelude.{IsTrue}
use Rattle.mono_graph.specs.Digraph.{has, present}
use Rattle.mono_graph.proofs.Membership.{at_places}
use Rattle.mono_dynamic.specs.Ways.{is_lightest}
use Rattle.mono_dynamic.proofs.Lists.{index_of}
use Rattle.mono_dynamic.proofs.least_costs.LeastCosts.put_leaving.Goals as goal

pub returns-clause-put : goal.returns-clause-put
returns-clause-put c = λ k lt from h.
    let places : List ℕ = c.leaving-place-items.result.now in
    let r = index_of places k (subst (λ (ks : List ℕ). IsTrue (has ks k)) (sym c.leaving-place-items.ensures.places) (at_places (λ e. e.from) c.args.graph.now c.args.node k lt from)) in
    let low : r.0 < c.loop-place.place-index = (let inside = r.1 in let all = c.loop-place-test.false in omega arith) in
    subst (λ (j : ℕ). IsTrue (present c.loop-place.light j)) r.2
    (c.loop-place.invariant.done r.0 low (subst (λ (j : ℕ). IsTrue (is_lightest c.args.graph.now c.args.part.now c.args.self.now.limit c.args.self.now.labels j)) (sym r.2) h))
