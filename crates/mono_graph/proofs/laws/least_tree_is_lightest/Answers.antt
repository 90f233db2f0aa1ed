use Rattle.mono_graph.proofs.LeastTrees.{is_least-le}
use Rattle.mono_graph.proofs.laws.least_tree_is_lightest.Goals as goal

pub returns : goal.returns
returns c = is_least-le
