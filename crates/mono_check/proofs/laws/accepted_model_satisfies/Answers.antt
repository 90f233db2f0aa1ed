use Rattle.mono_check.proofs.Accepted.{model_satisfies}
use Rattle.mono_check.proofs.laws.accepted_model_satisfies.Goals as goal

pub returns : goal.returns
returns c = model_satisfies
