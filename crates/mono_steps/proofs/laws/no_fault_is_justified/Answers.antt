use Rattle.mono_steps.proofs.StepFaults.{justified_without_fault}
use Rattle.mono_steps.proofs.laws.no_fault_is_justified.Goals as goal

pub returns : goal.returns
returns c = justified_without_fault
