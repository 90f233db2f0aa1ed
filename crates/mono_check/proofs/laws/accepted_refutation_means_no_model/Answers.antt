use Rattle.mono_check.proofs.Accepted.{refutation_has_no_model}
use Rattle.mono_check.proofs.laws.accepted_refutation_means_no_model.Goals as goal

pub returns : goal.returns
returns c = refutation_has_no_model
