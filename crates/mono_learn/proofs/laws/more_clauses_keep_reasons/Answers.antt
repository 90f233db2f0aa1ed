use Rattle.mono_learn.proofs.Settling.{reasons_more}
use Rattle.mono_learn.proofs.KeptReasons.{reasons_shown}
use Rattle.mono_learn.proofs.laws.more_clauses_keep_reasons.Goals as goal

pub returns-clause-clauses : goal.returns-clause-clauses
returns-clause-clauses c = reasons_more

pub returns-clause-shown : goal.returns-clause-shown
returns-clause-shown c = reasons_shown
