use Rattle.std.proofs.Common.{◌≡◌, zero, suc, length, ap, refl}
use Rattle.mono_portfolio.specs.TeamView.{TeamView, worker_at}
use Rattle.mono_portfolio.proofs.worked_plays.answers_to_takings.Goals as goal

pub returns-clause-taken : goal.returns-clause-taken
returns-clause-taken c = refl

pub returns-clause-kept : goal.returns-clause-kept
returns-clause-kept c = λ h. let e : suc zero ≡ zero = ap (λ (t : TeamView). length (worker_at t 1).made) h in cc

pub returns-clause-not_taken : goal.returns-clause-not_taken
returns-clause-not_taken c = λ h. let e : zero ≡ suc zero = ap (λ (t : TeamView). length (worker_at t 1).taken) h in cc

pub returns-clause-by_the_other : goal.returns-clause-by_the_other
returns-clause-by_the_other c = λ h. let e : suc (suc zero) ≡ suc zero = ap (λ (t : TeamView). length (worker_at t 0).taken) h in cc
