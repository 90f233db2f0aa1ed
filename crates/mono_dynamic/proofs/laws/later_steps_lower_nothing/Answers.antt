use Rattle.mono_dynamic.proofs.LeastExact.{least_same}
use Rattle.mono_dynamic.proofs.laws.later_steps_lower_nothing.Goals as goal

pub returns : goal.returns
returns c = least_same
