use Rattle.std.proofs.Common.{refl, arith}
use Rattle.mono_best.proofs.WorkedBest.{wide_met}
use Rattle.mono_best.proofs.worked.models_of_leaps.Goals as goal

pub returns-clause-found : goal.returns-clause-found
returns-clause-found c = (omega arith, omega arith, record { len = refl; satisfies = wide_met })

pub returns-clause-found_before : goal.returns-clause-found_before
returns-clause-found_before c = λ h. absurd (omega (arith, h.0))

pub returns-clause-behind_the_last : goal.returns-clause-behind_the_last
returns-clause-behind_the_last c = λ model h. absurd (omega (arith, h.1))

pub returns-clause-no_model : goal.returns-clause-no_model
returns-clause-no_model c = λ h. let e = h.2.satisfies.0 in cc

pub returns-clause-nothing_found : goal.returns-clause-nothing_found
returns-clause-nothing_found c = record { found = tt; from = omega arith; to = omega arith }

pub returns-clause-asked_before : goal.returns-clause-asked_before
returns-clause-asked_before c = λ h. absurd (omega (arith, h.from))

pub returns-clause-asked_behind : goal.returns-clause-asked_behind
returns-clause-asked_behind c = λ h. absurd (omega (arith, h.to))

pub returns-clause-last_is_no_model : goal.returns-clause-last_is_no_model
returns-clause-last_is_no_model c = λ h. let e = h.found.2.satisfies.0 in cc
