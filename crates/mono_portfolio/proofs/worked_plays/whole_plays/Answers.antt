use Rattle.std.proofs.Common.{◌≡◌, [], refl, ap, ◌∙◌}
use Rattle.mono_portfolio.specs.TeamView.{TeamView}
use Rattle.mono_search.specs.Worked.{first_learned}
use Rattle.mono_portfolio.specs.Worked.{at_end}
use Rattle.mono_portfolio.proofs.worked_plays.whole_plays.Goals as goal

pub returns-clause-small : goal.returns-clause-small
returns-clause-small c = record { last = at_end; plays = c.small_play.ensures; is = refl }

pub returns-clause-other_board : goal.returns-clause-other_board
returns-clause-other_board c = λ h. let e : first_learned ≡ [] = h.is ∙ ap (λ (s : TeamView). s.board) h.plays in cc

pub returns-clause-other_replies : goal.returns-clause-other_replies
returns-clause-other_replies c = λ h. h.plays
