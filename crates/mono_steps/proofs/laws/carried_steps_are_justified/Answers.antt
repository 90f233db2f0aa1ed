use Rattle.mono_steps.proofs.CarriedSteps.{carried_justified}
use Rattle.mono_steps.proofs.laws.carried_steps_are_justified.Goals as goal

pub returns : goal.returns
returns c = carried_justified
