use Rattle.std.proofs.Common.{◌≡◌, ℕ, ◌<◌, All, List, length, sym, ap, subst, ◌∙◌}
use Rattle.std.specs.Prelude.{IsTrue}
use Rattle.mono_graph.specs.Digraph.{is_distinct}
use Rattle.mono_theory.specs.Resting.{absent_out}
use Rattle.mono_flow.specs.Flowing.{EachIsNeeded}
use Rattle.mono_flow.proofs.CutEvidence.{absent_known}
use Rattle.mono_flow.proofs.DistinctEdges.{absent_distinct}
use Rattle.mono_flow.proofs.flow.cut_evidence.Goals as goal

pub needed-requires-clause-known : goal.needed-requires-clause-known
needed-requires-clause-known c =
    let g = c.args.graph.now in
    let is : c.as_slice-2.result.now ≡ absent_out g c.args.part.now c.args.nodes.items =
    c.as_slice-2.ensures.value ∙ (c.in_ok-absent.ensures.edges ∙ ap (absent_out g c.args.part.now) c.as_slice.ensures.value) in
    subst (λ (ks : List ℕ). All (λ k. k < length g.edges) ks) (sym is) (absent_known g c.args.part.now c.args.nodes.items)

pub needed-requires-clause-distinct : goal.needed-requires-clause-distinct
needed-requires-clause-distinct c =
    let g = c.args.graph.now in
    let is : c.as_slice-2.result.now ≡ absent_out g c.args.part.now c.args.nodes.items =
    c.as_slice-2.ensures.value ∙ (c.in_ok-absent.ensures.edges ∙ ap (absent_out g c.args.part.now) c.as_slice.ensures.value) in
    subst (λ (ks : List ℕ). IsTrue (is_distinct ks)) (sym is) (absent_distinct g c.args.part.now c.args.nodes.items c.requires.distinct)

pub returns-clause-each : goal.returns-clause-each
returns-clause-each c =
    let g = c.args.graph.now in
    let out : List ℕ = absent_out g c.args.part.now c.args.nodes.items in
    let is : c.as_slice-2.result.now ≡ out =
    c.as_slice-2.ensures.value ∙ (c.in_ok-absent.ensures.edges ∙ ap (absent_out g c.args.part.now) c.as_slice.ensures.value) in
    subst (λ (named : List ℕ). EachIsNeeded g c.args.slack out named) (sym c.from_vec-2.ensures)
    (subst (λ (ks : List ℕ). EachIsNeeded g c.args.slack ks c.in_ok-edges.edges.items) is c.in_ok-edges.ensures.each)
