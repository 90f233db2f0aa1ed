use Rattle.std.proofs.Common.{ℕ, zero, suc, ◌<◌, ◌&&◌, ◌||◌, [], ◌∷◌, not, Bool, true, false, refl, arith, IsTrue}
use Rattle.std.specs.List.{remove}
use Rattle.mono_problem.specs.Assuming.{assuming}
use Rattle.mono_problem.specs.Holds.{Satisfies}
use Rattle.mono_search.specs.Worked.{both_signs}
use Rattle.mono_steps.specs.WorkedLemmas.{minus}
use Rattle.mono_core.specs.Worked.{one_clause}
use Rattle.mono_core.proofs.worked.minimal_sets.Goals as goal

pub returns-clause-has_a_model : goal.returns-clause-has_a_model
returns-clause-has_a_model c = λ h. h.none (λ x. true) (refl, (λ k d lt. absurd (omega arith)))

-- {1} isn't satisfied under -1
none_under : (a : ℕ → Bool) → Satisfies (assuming one_clause (minus 1 ∷ [])) a → ⊥
none_under a sat = by (a 1) sat.0
  where
    by : (b : Bool) → IsTrue ((b || false) && ((not b || false) && true)) → ⊥
    by true e = cc
    by false e = cc

under_any_other : (k : ℕ) → k < 1 → (a : ℕ → Bool) × Satisfies (assuming one_clause (remove (minus 1 ∷ []) k)) a
under_any_other zero lt = (λ x. true, (refl, (λ k d none. absurd (omega (arith, none)))))
under_any_other (suc k) lt = absurd (omega (arith, lt))

none_of_itself : (a : ℕ → Bool) → Satisfies (assuming both_signs []) a → ⊥
none_of_itself a sat = by (a 1) sat.0
  where
    by : (b : Bool) → IsTrue ((b || false) && ((not b || false) && true)) → ⊥
    by true e = cc
    by false e = cc

pub returns-clause-minimal : goal.returns-clause-minimal
returns-clause-minimal c = record { none = none_under; others = under_any_other }

pub returns-clause-needless_last : goal.returns-clause-needless_last
returns-clause-needless_last c = λ h. (let rest = h.others 1 (omega arith) in none_under rest.0 rest.1)

pub returns-clause-needless_alone : goal.returns-clause-needless_alone
returns-clause-needless_alone c = λ h. (let rest = h.others 0 (omega arith) in none_of_itself rest.0 rest.1)

pub returns-clause-needless : goal.returns-clause-needless
returns-clause-needless c = λ h. (let sat = (h.others 0 (omega arith)).1.0 in by ((h.others 0 (omega arith)).0 1) sat)
  where
    by : (b : Bool) → IsTrue ((b || false) && ((not b || false) && true)) → ⊥
    by true e = cc
    by false e = cc
