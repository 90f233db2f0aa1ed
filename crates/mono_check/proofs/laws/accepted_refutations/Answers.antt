use Rattle.mono_check.proofs.Accepted.{refutation_iff}
use Rattle.mono_check.proofs.laws.accepted_refutations.Goals as goal

pub returns : goal.returns
returns c = refutation_iff
