use Rattle.mono_graph.proofs.Components.{component_count-apart}
use Rattle.mono_graph.proofs.laws.edge_between_components_joins_them.Goals as goal

pub returns : goal.returns
returns c = component_count-apart
