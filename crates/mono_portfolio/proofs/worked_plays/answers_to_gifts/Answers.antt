use Rattle.std.proofs.Common.{◌≡◌, zero, suc, length, ap}
use Rattle.mono_portfolio.specs.TeamView.{TeamView, worker_at}
use Rattle.mono_portfolio.proofs.worked_plays.answers_to_gifts.Goals as goal

pub returns-clause-count : goal.returns-clause-count
returns-clause-count c = λ t h. let e : suc (suc zero) ≡ suc zero = h.0 in cc

pub returns-clause-kept : goal.returns-clause-kept
returns-clause-kept c = λ h. let e : suc zero ≡ zero = ap (λ (t : TeamView). length (worker_at t 1).made) h.1 in cc

pub returns-clause-not_joined : goal.returns-clause-not_joined
returns-clause-not_joined c = λ h. let e : suc (suc zero) ≡ suc (suc (suc zero)) = ap (λ (t : TeamView). length t.board) h.1 in cc
