use Rattle.std.proofs.Common.{◌≡◌, Bool, true, false, not, ◌&&◌, ◌||◌, List, [], ◌∷◌, ℤ, pos, refl, subst, inl, inr, cond}
use Rattle.std.specs.Prelude.{IsTrue}
use Rattle.std.specs.Ordering.{int_eq}
use Rattle.std.proofs.lemmas.Bool.{and_parts, not-true, or_cases}
use Rattle.mono_base.specs.Literal.{has_lit}
use Rattle.mono_base.specs.Partial.{has_two, is_open_in, unit_quiet}
use Rattle.mono_base.proofs.Truth.{same_lit}
use Rattle.mono_steps.specs.WorkedLemmas.{minus}
use Rattle.mono_rows.proofs.steps.clause_made_false.Goals as goal

-- whether -1 is true, and whether it is open
unit_is_due : (on free : Bool) → on ≡ false → IsTrue (((on || false) || has_two (cond free (minus 1 ∷ []) [])) && true) → ⊥
unit_is_due true free e quiet = cc
unit_is_due false true e quiet = cc
unit_is_due false false e quiet = cc

never : (t : List ℤ) (l : ℤ) → IsTrue (has_lit (pos 1 ∷ []) l) → IsTrue (is_open_in t l) → IsTrue (unit_quiet ((minus 1 ∷ []) ∷ []) t) → ⊥
never t l has is_open quiet = elim (or_cases (int_eq l (pos 1)) false has) [
  | inl e ↦
      let at = subst (λ (m : ℤ). IsTrue (is_open_in t m)) (same_lit l (pos 1) e) is_open in
      let parts = and_parts (not (has_lit t (pos 1))) (not (has_lit t (minus 1))) at in
      unit_is_due (has_lit t (minus 1)) (is_open_in t (minus 1)) (not-true (has_lit t (minus 1)) parts.1) quiet
  | inr f ↦ cc
]

pub returns : goal.returns
returns c = λ h. let k = (h.chains.0 refl).new in never k.under k.lit k.has k.is_open k.quiet
