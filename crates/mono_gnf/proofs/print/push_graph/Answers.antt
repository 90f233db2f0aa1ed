use Rattle.mono_gnf.proofs.print.push_graph.Goals as goal

pub returns : goal.returns
returns c = rw (← c.nodes.ensures.count, ← c.edge_count.ensures, ← c.from-nodes.ensures, ← c.from-edges.ensures, ← c.from.ensures) c.push_line.ensures.ok
