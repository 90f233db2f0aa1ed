use Rattle.mono_search.specs.Worked.{two_clauses}
use Rattle.mono_portfolio.specs.Worked.{events, replies, at_end}
use Rattle.mono_portfolio.proofs.WorkedProblem.{two_clauses_ok}
use Rattle.mono_portfolio.proofs.worked_plays.small_play_is_sound.Goals as goal

pub returns : goal.returns
returns c = c.every_play_is_sound.ensures two_clauses 2 events replies at_end two_clauses_ok c.small_play.ensures
