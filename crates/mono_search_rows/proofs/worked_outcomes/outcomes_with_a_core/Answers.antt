use Rattle.std.proofs.Common.{[], ◌∷◌, true, refl, arith}
use Rattle.mono_search_rows.proofs.worked_outcomes.outcomes_with_a_core.Goals as goal

pub returns-clause-core : goal.returns-clause-core
returns-clause-core c = record {
  kept = true ∷ [];
  as_many = refl;
  is = refl;
  refutes = record { refutes = refl; named = λ k lt. absurd (omega (arith, lt)); short = omega arith };
  needed = (record { len = refl; satisfies = (refl, (λ k d lt. absurd (omega arith))) }, tt);
}

pub returns-clause-no_refutation : goal.returns-clause-no_refutation
returns-clause-no_refutation c = λ h. let e = h.refutes.refutes in cc
