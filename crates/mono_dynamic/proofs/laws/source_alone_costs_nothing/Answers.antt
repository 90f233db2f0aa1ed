use Rattle.mono_dynamic.proofs.LeastExact.{least_first}
use Rattle.mono_dynamic.proofs.laws.source_alone_costs_nothing.Goals as goal

pub returns : goal.returns
returns c = least_first
