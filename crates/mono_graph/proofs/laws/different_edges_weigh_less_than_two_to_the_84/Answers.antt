use Rattle.mono_graph.proofs.WeightSums.{weights_below}
use Rattle.mono_graph.proofs.laws.different_edges_weigh_less_than_two_to_the_84.Goals as goal

pub returns : goal.returns
returns c = weights_below
