use Rattle.std.proofs.Common.{◌≡◌, ◌+◌, ◌<◌, ◌==◌, ℕ, zero, suc, false, List, [], ◌∷◌, ◌++◌, length, sym, ap, subst, refl, ◌∙◌, arith}
use Rattle.std.proofs.lemmas.Bool.{eqb-true}
use Rattle.std.proofs.lemmas.List.{map_push}
use Rattle.mono_theory.specs.Owners.{fact_of, facts_of}
use Rattle.mono_any.specs.Kinds.{graph_of, atoms_of, seen_of}
use Rattle.mono_kinds.specs.Slots.{AreMade, made_of, numbers_in}
use Rattle.mono_kinds.proofs.SlotNumbers.{made_push, made_skip}
use Rattle.mono_kinds.proofs.every.theories_of.Goals as goal
use Rattle.mono_kinds.proofs.every.theories_of.Goals.{then-not-is_empty+in_ok-theory_of+in_ok-push, else-not-is_empty}

length-zero : (xs : List ℕ) → length xs ≡ 0 → xs ≡ []
length-zero [] e = refl
length-zero (x ∷ xs) e = absurd (omega (arith, e))

some_from : (n : ℕ) → (n == 0) ≡ false → 0 < n
some_from zero e = absurd cc
some_from (suc n) e = omega arith

pub loop-slot-preserved : goal.loop-slot-preserved
loop-slot-preserved c =
    let p = c.args.problem.now in
    let j = c.loop-slot.slot in
    let numbers : c.list-numbers.result.now ≡ numbers_in p (length p.atoms) j = c.list-numbers.ensures ∙ c.requires.slots.each j (rw c.slot_count-slot-end.ensures at c.loop-slot-test.true) in
    elim c.if-not-is_empty.branch [
      | then-not-is_empty+in_ok-theory_of+in_ok-push w ↦ (
          let ts = c.loop-slot.theories.items in
          let t = w.in_ok-theory_of.field-0 in
          let made : fact_of graph_of atoms_of seen_of t ≡ made_of p j (numbers_in p (length p.atoms) j) = w.in_ok-theory_of.ensures ∙ ap (made_of p j) numbers in
          let more : facts_of graph_of atoms_of seen_of c.if-not-is_empty.theories.items ≡ facts_of graph_of atoms_of seen_of ts ++ fact_of graph_of atoms_of seen_of t ∷ [] =
          ap (λ v. facts_of graph_of atoms_of seen_of v.items) w.theories-is ∙ ap (facts_of graph_of atoms_of seen_of) w.in_ok-push.ensures.items ∙ map_push (fact_of graph_of atoms_of seen_of) ts t in
          let some = some_from (length c.list-numbers.result.now) (sym c.is_empty.ensures ∙ w.if-not-is_empty.true) in
          subst (AreMade p (j + 1)) (sym more)
          (made_push p j (facts_of graph_of atoms_of seen_of ts) (fact_of graph_of atoms_of seen_of t) c.known.ensures.problem c.loop-slot.invariant made (subst (λ (ns : List ℕ). 0 < length ns) numbers some)))
      | else-not-is_empty w ↦ (
          let none : c.list-numbers.result.now ≡ [] = length-zero c.list-numbers.result.now (eqb-true (length c.list-numbers.result.now) 0 (sym c.is_empty.ensures ∙ w.if-not-is_empty.false)) in
          rw w.theories-is (made_skip p j (facts_of graph_of atoms_of seen_of c.loop-slot.theories.items) c.loop-slot.invariant (sym numbers ∙ none)))
    ]
