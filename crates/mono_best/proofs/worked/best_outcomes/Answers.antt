use Rattle.std.proofs.Common.{refl, arith}
use Rattle.std.proofs.lemmas.Int.{ints}
use Rattle.mono_best.proofs.WorkedBest.{five_met, four_named, first_not_named}
use Rattle.mono_best.proofs.worked.best_outcomes.Goals as goal

pub returns-clause-five : goal.returns-clause-five
returns-clause-five c = record {
  low = omega (arith, ints);
  high = omega (arith, ints);
  met = record { len = refl; satisfies = five_met };
  refutes = record { refutes = refl; named = four_named; short = omega arith };
}

pub returns-clause-no_model : goal.returns-clause-no_model
returns-clause-no_model c = λ h. let e = h.met.satisfies.0 in cc

pub returns-clause-model_too_short : goal.returns-clause-model_too_short
returns-clause-model_too_short c = λ h. let e = h.met.len in cc

pub returns-clause-refutation_of_another_bound : goal.returns-clause-refutation_of_another_bound
returns-clause-refutation_of_another_bound c = λ h. let e = h.refutes.refutes in cc

pub returns-clause-no_refutation : goal.returns-clause-no_refutation
returns-clause-no_refutation c = λ h. let e = h.refutes.refutes in cc

pub returns-clause-step_not_used : goal.returns-clause-step_not_used
returns-clause-step_not_used c = λ h. first_not_named (h.refutes.named 0 (omega arith))

pub returns-clause-too_great : goal.returns-clause-too_great
returns-clause-too_great c = λ model steps h. absurd (omega (arith, ints, h.high))

pub returns-clause-below_0 : goal.returns-clause-below_0
returns-clause-below_0 c = λ model steps h. absurd (omega (arith, ints, h.low))
