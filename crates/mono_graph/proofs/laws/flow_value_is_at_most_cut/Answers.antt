use Rattle.mono_graph.proofs.CutsBoundFlows.{value_of-le}
use Rattle.mono_graph.proofs.laws.flow_value_is_at_most_cut.Goals as goal

pub returns : goal.returns
returns c = value_of-le
