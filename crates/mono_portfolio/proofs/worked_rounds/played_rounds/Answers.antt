use Rattle.std.proofs.Common.{◌≡◌, zero, suc, List, [], length, refl, ap, arith}
use Rattle.mono_steps.specs.declared.step.Step.{Step}
use Rattle.mono_portfolio.proofs.worked_rounds.played_rounds.Goals as goal

pub returns-clause-thousand : goal.returns-clause-thousand
returns-clause-thousand c = λ p board workers rounds h. h

pub returns-clause-none : goal.returns-clause-none
returns-clause-none c = ([], (refl, refl))

pub returns-clause-none_more : goal.returns-clause-none_more
returns-clause-none_more c = λ h. let e : suc zero ≡ zero = ap (λ (ss : List Step). length ss) h.1.1 in cc

pub returns-clause-one : goal.returns-clause-one
returns-clause-one c = λ board h. let few = h.1.1.1.learned.few in omega (arith, few)
