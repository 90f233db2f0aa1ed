use Rattle.mono_dynamic.proofs.Exact.{along_still}
use Rattle.mono_dynamic.proofs.laws.steps_without_edges_reach_nothing.Goals as goal

pub returns : goal.returns
returns c = along_still
