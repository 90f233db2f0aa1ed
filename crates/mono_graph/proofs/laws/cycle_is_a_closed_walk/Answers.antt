use Rattle.mono_graph.proofs.RisingRanks.{cycle_cyclic}
use Rattle.mono_graph.proofs.laws.cycle_is_a_closed_walk.Goals as goal

pub returns : goal.returns
returns c = cycle_cyclic
