use Rattle.mono_paths.specs.Stays.{stays_at}
use Rattle.mono_graph.proofs.Seen.{AreSeen}
use Rattle.mono_paths.proofs.cut.all_stay.Given as goal

abbrev pub invariant-loop-node : goal.invariant-loop-node
invariant-loop-node l = AreSeen (stays_at l.inside l.graph l.part) l.graph.nodes l.seen.items l.nodes l.node-index
