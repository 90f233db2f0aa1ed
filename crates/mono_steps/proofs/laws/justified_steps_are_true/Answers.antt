use Rattle.mono_steps.proofs.StepTruth.{justified_true}
use Rattle.mono_steps.proofs.laws.justified_steps_are_true.Goals as goal

pub returns : goal.returns
returns c = justified_true
