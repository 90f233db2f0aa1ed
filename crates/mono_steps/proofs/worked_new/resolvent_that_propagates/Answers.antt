use Rattle.std.proofs.Common.{◌≡◌, false, List, [], ◌∷◌, map, refl, subst, inl, inr, ℤ, pos}
use Rattle.std.specs.Prelude.{IsTrue, neg_ℤ}
use Rattle.std.specs.Ordering.{int_eq}
use Rattle.std.proofs.lemmas.Bool.{or_cases}
use Rattle.mono_base.specs.Literal.{has_lit, without}
use Rattle.mono_base.proofs.Truth.{same_lit}
use Rattle.mono_steps.specs.WorkedLemmas.{minus}
use Rattle.mono_steps.specs.Propagated.{is_propagated, has_false}
use Rattle.mono_steps.proofs.Propagation.{not_propagated}
use Rattle.mono_steps.proofs.worked_new.resolvent_that_propagates.Goals as goal

abbrev known : List (List ℤ)
known = (pos 1 ∷ pos 2 ∷ []) ∷ (minus 1 ∷ pos 3 ∷ []) ∷ []

abbrev both : List ℤ
both = pos 2 ∷ pos 3 ∷ []

-- the literal never comes
abbrev StaysOut : ℤ → Type 0
StaysOut l = (s : List ℤ) → IsTrue (is_propagated known (map neg_ℤ (without both l)) s) → (has_lit s l ≡ false) × (has_false known s ≡ false)

never : (l : ℤ) → IsTrue (has_lit both l) → StaysOut l → ⊥
never l h out = elim (or_cases (int_eq l (pos 2)) (has_lit (pos 3 ∷ []) l) h) [
  | inl e ↦ let o = subst StaysOut (same_lit l (pos 2) e) out (pos 2 ∷ minus 1 ∷ minus 3 ∷ []) refl in let x = o.0 in cc
  | inr e ↦ elim (or_cases (int_eq l (pos 3)) false e) [
    | inl f ↦ let o = subst StaysOut (same_lit l (pos 3) f) out (pos 3 ∷ pos 1 ∷ minus 2 ∷ []) refl in let x = o.0 in cc
    | inr f ↦ cc
  ]
]

pub returns : goal.returns
returns c = λ h. let k = not_propagated known both (h.chains.0 refl).new in never k.0 k.1 k.2
