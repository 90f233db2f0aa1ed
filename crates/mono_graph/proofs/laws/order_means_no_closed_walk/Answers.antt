use Rattle.mono_graph.proofs.RisingRanks.{order_acyclic}
use Rattle.mono_graph.proofs.laws.order_means_no_closed_walk.Goals as goal

pub returns : goal.returns
returns c = order_acyclic
