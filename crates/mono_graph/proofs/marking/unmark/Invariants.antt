use Rattle.std.proofs.Common.{false, take}
use Rattle.mono_graph.proofs.Prefixes.{Cleared}
use Rattle.mono_graph.proofs.marking.unmark.Given as goal

abbrev pub invariant-loop-member : goal.invariant-loop-member
invariant-loop-member l = Cleared false l.fn.marks.items l.marks.items (take l.member-index l.members)
