use Rattle.std.proofs.Common.{◌≡◌, [], refl, subst, inl, inr, arith, ℤ, pos, ◌-ℤ◌}
use Rattle.std.proofs.lemmas.Int.{ints}
use Rattle.mono_base.specs.declared.limits.TheConstants.{MAX_BOUND}
use Rattle.mono_search.specs.Outcomes.{HasModel}
use Rattle.mono_best.specs.Asking.{asking}
use Rattle.mono_best.specs.Worked.{both_there, weighed}
use Rattle.mono_best.proofs.WorkedBest.{all_named, four_not_met, six_met, wide_met}
use Rattle.mono_best.proofs.worked.outcomes_without_a_best_bound.Goals as goal

pub returns-clause-never : goal.returns-clause-never
returns-clause-never c = record { refutes = refl; named = all_named; short = omega arith }

pub returns-clause-not_the_weakest : goal.returns-clause-not_the_weakest
returns-clause-not_the_weakest c = λ h. let e = h.refutes in cc

pub returns-clause-beyond : goal.returns-clause-beyond
returns-clause-beyond c = record { flow = refl; met = record { len = refl; satisfies = wide_met } }

pub returns-clause-beyond_without_a_model : goal.returns-clause-beyond_without_a_model
returns-clause-beyond_without_a_model c = λ h. let e = h.met.satisfies.0 in cc

pub returns-clause-weight : goal.returns-clause-weight
returns-clause-weight c = λ h. let e = h.flow in cc

pub returns-clause-spent : goal.returns-clause-spent
returns-clause-spent c = record {
  bound = (omega (arith, ints), omega (arith, ints));
  first_or_next = inr (record { met_bound = pos 6; model = both_there; met = record { len = refl; satisfies = six_met }; next = refl });
  progress = record { justified = refl; new = record { chains = tt; none_empty = refl }; chains = refl; few = omega arith; short = omega arith };
}

pub returns-clause-spent_on_the_weakest : goal.returns-clause-spent_on_the_weakest
returns-clause-spent_on_the_weakest c = record {
  bound = (omega (arith, ints), omega (arith, ints));
  first_or_next = inl refl;
  progress = record { justified = refl; new = record { chains = tt; none_empty = refl }; chains = refl; few = omega arith; short = omega arith };
}

-- 3 is the next bound after 4 alone
three_is_next : (b : ℤ) → pos 3 ≡ (b -ℤ pos 1) → b ≡ pos 4
three_is_next b next = omega (arith, ints, next)

pub returns-clause-not_next_after_one_met : goal.returns-clause-not_next_after_one_met
returns-clause-not_next_after_one_met c = λ h. elim h.first_or_next [
  | inl first ↦ let e : pos 3 ≡ pos MAX_BOUND = first in absurd (omega (arith, ints, e))
  | inr after ↦ four_not_met after.model (subst (λ (b : ℤ). HasModel (asking (weighed []) 1 b) after.model) (three_is_next after.met_bound after.next) after.met)
]

pub returns-clause-not_spent : goal.returns-clause-not_spent
returns-clause-not_spent c = λ h. let e = h.progress.chains in cc

pub returns-clause-no_bound : goal.returns-clause-no_bound
returns-clause-no_bound c = λ h. absurd (omega (arith, ints, h.bound.1))
