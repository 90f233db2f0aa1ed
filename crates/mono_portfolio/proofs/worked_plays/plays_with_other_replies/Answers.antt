use Rattle.std.proofs.Common.{◌≡◌, zero, suc, length, ap, ◌∙◌}
use Rattle.mono_portfolio.specs.TeamView.{TeamView}
use Rattle.mono_portfolio.proofs.worked_plays.plays_with_other_replies.Goals as goal

pub returns-clause-other : goal.returns-clause-other
returns-clause-other c = λ h. h.1

pub returns-clause-fewer : goal.returns-clause-fewer
returns-clause-fewer c = λ h. h

pub returns-clause-more : goal.returns-clause-more
returns-clause-more c = λ h. h

pub returns-clause-after_a_refusal : goal.returns-clause-after_a_refusal
returns-clause-after_a_refusal c = λ h. let e : suc zero ≡ zero = ap (λ (t : TeamView). length t.board) (h.2 ∙ h.1.1) in cc
