use Rattle.mono_learn.proofs.Settling.{lemma_was_unit, settles_one, settles_then, settles_more, reasons_settled}
use Rattle.mono_learn.proofs.laws.settling_keeps_reasons.Goals as goal

pub returns-clause-unit : goal.returns-clause-unit
returns-clause-unit c = lemma_was_unit

pub returns-clause-one : goal.returns-clause-one
returns-clause-one c = settles_one

pub returns-clause-several : goal.returns-clause-several
returns-clause-several c = settles_then

pub returns-clause-more : goal.returns-clause-more
returns-clause-more c = settles_more

pub returns-clause-keeps : goal.returns-clause-keeps
returns-clause-keeps c = reasons_settled
