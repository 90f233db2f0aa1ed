use Rattle.std.proofs.Common.{◌≡◌, List, [], ◌∷◌, Bool, true, false, length, suc, zero, ℕ, pos, refl, arith}
use Rattle.mono_steps.specs.Renumbering.{pick}
use Rattle.mono_steps.specs.Needed.{is_set}
use Rattle.mono_steps.specs.WorkedLemmas.{minus}
use Rattle.mono_core.proofs.worked.tried_assumptions.Goals as goal

none_of_two : (flags : List Bool) → [] ≡ pick flags (minus 1 ∷ pos 1 ∷ []) → is_set flags 1 ≡ true → ⊥
none_of_two [] is on = cc
none_of_two (true ∷ flags) is on = cc
none_of_two (false ∷ []) is on = cc
none_of_two (false ∷ (true ∷ flags)) is on = cc
none_of_two (false ∷ (false ∷ flags)) is on = cc

none_of_both : (flags : List Bool) → [] ≡ pick flags (minus 1 ∷ pos 1 ∷ []) → is_set flags 0 ≡ true → ⊥
none_of_both [] is on = cc
none_of_both (true ∷ flags) is on = cc
none_of_both (false ∷ flags) is on = cc

not_picked : (flags : List Bool) → pos 2 ∷ [] ≡ pick flags (minus 1 ∷ []) → ⊥
not_picked [] is = cc
not_picked (true ∷ []) is = cc
not_picked (true ∷ (f ∷ flags)) is = cc
not_picked (false ∷ []) is = cc
not_picked (false ∷ (f ∷ flags)) is = cc

pub returns-clause-spent : goal.returns-clause-spent
returns-clause-spent c = record {
  flags = false ∷ [];
  as_many = refl;
  is = refl;
  without = refl;
  others = λ i other on. no_other i other on;
  progress = record { justified = refl; new = record { chains = tt; none_empty = refl }; chains = refl; few = omega arith; short = omega arith };
}
  where
    no_other : (i : ℕ) → (i ≡ 0 → ⊥) → is_set (true ∷ []) i ≡ true → is_set (false ∷ []) i ≡ true
    no_other zero other on = absurd (other refl)
    no_other (suc i) other on = cc

pub returns-clause-unspent : goal.returns-clause-unspent
returns-clause-unspent c = λ h. let e = h.progress.chains in omega (arith, e)

pub returns-clause-need_unspent : goal.returns-clause-need_unspent
returns-clause-need_unspent c = λ h. let e = h.progress.chains in omega (arith, e)

pub returns-clause-model_that_breaks_another : goal.returns-clause-model_that_breaks_another
returns-clause-model_that_breaks_another c = λ h. let e = h.satisfies.0 in cc

pub returns-clause-other_left_out : goal.returns-clause-other_left_out
returns-clause-other_left_out c = λ h. none_of_two h.flags h.is (h.others 1 (λ e. omega (arith, e)) refl)

pub returns-clause-earlier_left_out : goal.returns-clause-earlier_left_out
returns-clause-earlier_left_out c = λ h. none_of_both h.flags h.is (h.others 0 (λ e. omega (arith, e)) refl)

pub returns-clause-not_assumed : goal.returns-clause-not_assumed
returns-clause-not_assumed c = λ h. not_picked h.flags h.is

-- no flag is set where there is none
no_flags : (flags : List Bool) → length flags ≡ 0 → is_set flags 1 ≡ true → ⊥
no_flags [] many on = cc
no_flags (f ∷ flags) many on = absurd (omega (arith, many))

pub returns-clause-more_flags : goal.returns-clause-more_flags
returns-clause-more_flags c = λ h. no_flags h.flags h.as_many (h.others 1 (λ e. omega (arith, e)) refl)
