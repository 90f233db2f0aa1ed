use Rattle.mono_check.proofs.Accepted.{same_verdict}
use Rattle.mono_check.proofs.laws.one_verdict.Goals as goal

pub returns : goal.returns
returns c = same_verdict
