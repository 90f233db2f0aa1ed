use Rattle.std.proofs.Common.{refl, arith}
use Rattle.mono_core.proofs.worked.outcomes.Goals as goal

pub returns-clause-model : goal.returns-clause-model
returns-clause-model c = record { len = refl; satisfies = (refl, (λ k d lt. absurd (omega arith))) }

pub returns-clause-of_the_problem_alone : goal.returns-clause-of_the_problem_alone
returns-clause-of_the_problem_alone c = λ h. let e = h.satisfies.0 in cc

pub returns-clause-spent : goal.returns-clause-spent
returns-clause-spent c = record { justified = refl; new = record { chains = tt; none_empty = refl }; chains = refl; few = omega arith; short = omega arith }

pub returns-clause-unspent : goal.returns-clause-unspent
returns-clause-unspent c = λ h. let e = h.chains in omega (arith, e)
