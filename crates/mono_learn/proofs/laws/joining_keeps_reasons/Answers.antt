use Rattle.mono_learn.proofs.KeptReasons.{reasons_joined}
use Rattle.mono_learn.proofs.laws.joining_keeps_reasons.Goals as goal

pub returns : goal.returns
returns c = reasons_joined
