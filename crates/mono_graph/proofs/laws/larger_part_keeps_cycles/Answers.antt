use Rattle.mono_graph.proofs.RisingRanks.{is_cycle-larger}
use Rattle.mono_graph.proofs.laws.larger_part_keeps_cycles.Goals as goal

pub returns : goal.returns
returns c = is_cycle-larger
