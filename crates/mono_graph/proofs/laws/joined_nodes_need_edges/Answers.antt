use Rattle.mono_graph.proofs.Components.{enough_edges}
use Rattle.mono_graph.proofs.laws.joined_nodes_need_edges.Goals as goal

pub returns : goal.returns
returns c = enough_edges
