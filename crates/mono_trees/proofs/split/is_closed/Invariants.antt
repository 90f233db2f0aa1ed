use Rattle.mono_graph.proofs.Seen.{AreSeen}
use Rattle.mono_trees.specs.Crossing.{is_closed_at}
use Rattle.mono_trees.proofs.split.is_closed.Given as goal

abbrev pub invariant-loop-node : goal.invariant-loop-node
invariant-loop-node l = AreSeen (is_closed_at l.inside l.graph l.part) l.graph.nodes l.seen.items l.nodes l.node-index
