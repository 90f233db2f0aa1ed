use Rattle.std.proofs.Common.{◌≡◌, ◌<◌, ℕ, List, refl, sym, ap, ◌∙◌, subst, inl, inr, arith, pos}
use Rattle.std.specs.Prelude.{IsTrue, All}
use Rattle.std.proofs.lemmas.Bool.{cases_lt}
use Rattle.mono_graph.specs.Digraph.{has, is_distinct}
use Rattle.mono_flows.specs.declared.visit.Visit.{Visit}
use Rattle.mono_flows.specs.Visits.{is_marked}
use Rattle.mono_flows.proofs.Results.{blocked_cut, blocked_weight}
use Rattle.mono_flows.proofs.VisitedNodes.{nodes_of, visited_distinct, visited_known, visited_same}
use Rattle.mono_flows.proofs.finder.cut_of.Goals as goal

pub returns : goal.returns
returns c =
    let n = c.args.network.now in
    let search = c.args.search.now in
    let listed : c.in_ok-nodes.nodes.items ≡ nodes_of search.visits.items = c.in_ok-nodes.ensures ∙ ap (λ (vs : List Visit). nodes_of vs) c.deref.ensures.value in
    let most = c.requires.ended.flow.most in
    let lt : c.args.flow.now.value < c.args.goal = elim (cases_lt c.args.flow.now.value c.args.goal) [
      | inl lt ↦ lt
      | inr le ↦ absurd (c.if-flow-goal.false (omega (arith, le, most)))
    ] in
    let marks = c.requires.ended.marks lt in
    let blocked = c.requires.ended.blocked lt in
    let flowing = c.requires.ended.flow.flow.flowing in
    let nodes = c.in_ok-nodes.nodes.items in
    let same : (u : ℕ) → has nodes u ≡ is_marked search.marks.items u = λ u. ap (λ (us : List ℕ). has us u) listed ∙ visited_same n.graph.now search.marks.items search.visits.items marks u in
    record {
      cut = record {
        passes = blocked_cut n.graph.now n.part.now n.source n.sink _ c.args.flow.now.value c.args.goal (pos c.args.goal) search.marks.items nodes same
            c.known.ensures.graph.ends n.source_in_graph flowing refl lt blocked;
        known = subst (λ (us : List ℕ). All (λ u. u < n.graph.now.nodes) us) (sym listed) (visited_known n.graph.now.nodes search.visits.items c.requires.ended.search.inside);
        small = tt;
        carrying = tt;
        distinct = subst (λ (us : List ℕ). IsTrue (is_distinct us)) (sym listed) (visited_distinct n.graph.now search.marks.items search.visits.items marks);
        exact = tt;
        value = blocked_weight n.graph.now n.part.now n.source n.sink _ c.args.flow.now.value search.marks.items nodes same
            c.known.ensures.graph.ends n.source_in_graph flowing blocked;
      };
    }
