use Rattle.std.proofs.Common.{◌++◌, ◌∷◌, [], List, ℕ, ℤ, sym, ap, ◌∙◌, get_or}
use Rattle.std.proofs.lemmas.List.{map_more, take_all}
use Rattle.std.specs.Prelude.{map}
use Rattle.mono_graph.specs.Digraph.{edge_at}
use Rattle.mono_steps.specs.Switching.{literal_of}
use Rattle.mono_theory.proofs.evidence.clause_of.Goals as goal

pub loop-place-preserved : goal.loop-place-preserved
loop-place-preserved c =
    let g = c.args.graph.now in
    let ks : List ℕ = c.args.places.now in
    let i = c.loop-place.place-index in
    c.in_ok-push.ensures.items ∙ ap (λ (l : ℤ). c.loop-place.lits.items ++ l ∷ []) c.edge_literal-lit.ensures
    ∙ ap (λ (ls : List ℤ). ls ++ literal_of c.args.value (edge_at g (get_or ks i 0)).var ∷ []) c.loop-place.invariant
    ∙ ap (λ (ls : List ℤ). c.args.head ∷ ls) (sym (map_more (λ (k : ℕ). literal_of c.args.value (edge_at g k).var) ks i 0 c.loop-place-test.true))

pub returns : goal.returns
returns c =
    let all = c.loop-place.invariant ∙ ap (λ (ks : List ℕ). c.args.head ∷ map (λ (k : ℕ). literal_of c.args.value (edge_at c.args.graph.now k).var) ks) (take_all c.loop-place.place-index c.args.places.now c.loop-place-test.false) in
    rw (c.as_slice.ensures.value, all) at c.from_lits.ensures.value
