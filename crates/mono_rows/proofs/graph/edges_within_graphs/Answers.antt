use Rattle.std.proofs.Common.{arith}
use Rattle.mono_graph.specs.Digraph.{no_edge}
use Rattle.mono_rows.proofs.graph.edges_within_graphs.Goals as goal

pub returns-clause-loop_past_the_nodes : goal.returns-clause-loop_past_the_nodes
returns-clause-loop_past_the_nodes c = λ g. let low = (g.ends 0 no_edge (omega arith)).0 in omega (arith, low)

pub returns-clause-second_past_the_nodes : goal.returns-clause-second_past_the_nodes
returns-clause-second_past_the_nodes c = λ g. let low = (g.ends 1 no_edge (omega arith)).1 in omega (arith, low)

pub returns-clause-other_ends : goal.returns-clause-other_ends
returns-clause-other_ends c = λ g. let rise = g.rising 0 1 (omega arith) (omega arith) in omega (arith, rise)
