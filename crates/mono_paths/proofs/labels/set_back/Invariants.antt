use Rattle.std.proofs.Common.{take}
use Rattle.mono_graph.proofs.Prefixes.{Cleared}
use Rattle.mono_paths.proofs.labels.set_back.Given as goal

abbrev pub invariant-loop-node : goal.invariant-loop-node
invariant-loop-node l = Cleared 0 l.fn.below.items l.below.items (take l.node-index l.nodes)
