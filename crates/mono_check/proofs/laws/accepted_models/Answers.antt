use Rattle.mono_check.proofs.Accepted.{model_iff}
use Rattle.mono_check.proofs.laws.accepted_models.Goals as goal

pub returns : goal.returns
returns c = model_iff
