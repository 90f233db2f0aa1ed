use Rattle.mono_steps.proofs.CarriedSteps.{carried_refutes}
use Rattle.mono_steps.proofs.laws.carried_refutations_refute.Goals as goal

pub returns : goal.returns
returns c = carried_refutes
