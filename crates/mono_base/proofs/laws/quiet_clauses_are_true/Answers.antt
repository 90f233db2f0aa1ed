use Rattle.mono_base.proofs.Quiet.{quiet_are_true}
use Rattle.mono_base.proofs.laws.quiet_clauses_are_true.Goals as goal

pub returns : goal.returns
returns c = quiet_are_true
