use Rattle.std.proofs.Common.{◌++◌, ◌∷◌, [], List, ℕ, sym, ap, ◌∙◌, get_or}
use Rattle.std.proofs.lemmas.List.{map_more, take_all}
use Rattle.mono_graph.specs.declared.edge.Edge.{Edge}
use Rattle.mono_graph.specs.Digraph.{edge_at}
use Rattle.mono_theory.specs.Walked.{numbers_of}
use Rattle.mono_theory.proofs.walks.edge_numbers.Goals as goal

pub loop-place-preserved : goal.loop-place-preserved
loop-place-preserved c =
    let g = c.args.graph.now in
    let ks : List ℕ = c.args.places.now in
    let i = c.loop-place.place-index in
    c.in_ok-push.ensures.items ∙ ap (λ (e : Edge). c.loop-place.numbers.items ++ e.number ∷ []) c.edge-edge.ensures.edge
    ∙ ap (λ (ns : List ℕ). ns ++ (edge_at g (get_or ks i 0)).number ∷ []) c.loop-place.invariant ∙ sym (map_more (λ (k : ℕ). (edge_at g k).number) ks i 0 c.loop-place-test.true)

pub returns : goal.returns
returns c = c.loop-place.invariant ∙ ap (λ (ks : List ℕ). numbers_of c.args.graph.now ks) (take_all c.loop-place.place-index c.args.places.now c.loop-place-test.false)
