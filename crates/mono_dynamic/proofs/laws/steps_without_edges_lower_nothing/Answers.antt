use Rattle.mono_dynamic.proofs.LeastExact.{least_still}
use Rattle.mono_dynamic.proofs.laws.steps_without_edges_lower_nothing.Goals as goal

pub returns : goal.returns
returns c = least_still
