use Rattle.mono_graph.proofs.GraphGrown.{IsGraph-with_edge}
use Rattle.mono_rows.proofs.growing.graphs_that_grow.Goals as goal

pub returns : goal.returns
returns c = record { grown = IsGraph-with_edge }
