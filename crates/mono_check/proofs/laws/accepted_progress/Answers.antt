use Rattle.mono_check.proofs.Accepted.{progress_iff}
use Rattle.mono_check.proofs.laws.accepted_progress.Goals as goal

pub returns : goal.returns
returns c = progress_iff
