use Rattle.mono_learn.proofs.KeptReasons.{reasons_lowered}
use Rattle.mono_learn.proofs.laws.going_back_keeps_reasons.Goals as goal

pub returns : goal.returns
returns c = reasons_lowered
