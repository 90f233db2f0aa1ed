use Rattle.mono_graph.proofs.Components.{component_count-cons}
use Rattle.mono_graph.proofs.laws.edge_joins_at_most_two_components.Goals as goal

pub returns : goal.returns
returns c = component_count-cons
