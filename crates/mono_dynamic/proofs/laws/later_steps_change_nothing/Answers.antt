use Rattle.mono_dynamic.proofs.Exact.{along_same}
use Rattle.mono_dynamic.proofs.laws.later_steps_change_nothing.Goals as goal

pub returns : goal.returns
returns c = along_same
