use Rattle.std.proofs.Common.{take}
use Rattle.mono_graph.proofs.Prefixes.{Cleared}
use Rattle.mono_mend.specs.Growing.{no_mark}
use Rattle.mono_mend.proofs.growth.unmark.Given as goal

abbrev pub invariant-loop-node : goal.invariant-loop-node
invariant-loop-node l = Cleared no_mark l.fn.marks.items l.marks.items (take l.node-index l.nodes)
