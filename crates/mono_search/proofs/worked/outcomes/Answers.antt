use Rattle.std.proofs.Common.{refl, arith}
use Rattle.mono_search.proofs.worked.outcomes.Goals as goal

pub returns-clause-model : goal.returns-clause-model
returns-clause-model c = record { len = refl; satisfies = (refl, (λ k d lt. absurd (omega arith))) }

pub returns-clause-no_model : goal.returns-clause-no_model
returns-clause-no_model c = λ h. let e = h.satisfies.0 in cc

pub returns-clause-no_refutation : goal.returns-clause-no_refutation
returns-clause-no_refutation c = λ h. cc

pub returns-clause-not_spent : goal.returns-clause-not_spent
returns-clause-not_spent c = λ h. let e = h.chains in cc
