use Rattle.std.proofs.Common.{ℕ, zero, suc, true, false, [], ◌∷◌, refl, sym, subst, inl, inr, ℤ}
use Rattle.std.specs.Prelude.{IsTrue}
use Rattle.std.specs.Ordering.{int_eq}
use Rattle.std.proofs.lemmas.Bool.{or_cases}
use Rattle.mono_base.specs.Literal.{value_in, var_of, has_lit}
use Rattle.mono_base.proofs.Truth.{same_lit}
use Rattle.mono_steps.specs.WorkedLemmas.{minus}
use Rattle.mono_search.proofs.worked.released_variables.Goals as goal

stay : (v : ℕ) → IsTrue (value_in (false ∷ true ∷ []) v) → IsTrue (value_in (true ∷ true ∷ []) v)
stay zero h = h
stay (suc zero) h = refl
stay (suc (suc zero)) h = refl
stay (suc (suc (suc v))) h = h

back : (l : ℤ) → IsTrue (has_lit (minus 1 ∷ []) l) → IsTrue (value_in (true ∷ true ∷ []) (var_of l))
back l h = elim (or_cases (int_eq l (minus 1)) false h) [
  | inl e ↦ subst (λ (m : ℤ). IsTrue (value_in (true ∷ true ∷ []) (var_of m))) (sym (same_lit l (minus 1) e)) refl
  | inr z ↦ absurd cc
]

pub returns-clause-one : goal.returns-clause-one
returns-clause-one c = record { as_many = refl; stay = stay; back = back; phases = refl }

pub returns-clause-not_back : goal.returns-clause-not_back
returns-clause-not_back c = λ h. let e = h.back (minus 1) refl in cc

pub returns-clause-lost : goal.returns-clause-lost
returns-clause-lost c = λ h. let e = h.stay 2 refl in cc

pub returns-clause-not_saved : goal.returns-clause-not_saved
returns-clause-not_saved c = λ h. let e = h.phases in cc

pub returns-clause-shorter : goal.returns-clause-shorter
returns-clause-shorter c = λ h. let e = h.as_many in cc
