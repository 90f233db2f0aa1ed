use Rattle.std.proofs.Common.{◌≡◌, ℕ, false, length, get_or, take}
use Rattle.mono_graph.specs.Digraph.{has}
use Rattle.mono_graph.proofs.marking.mark.Given as goal

abbrev pub invariant-loop-member : goal.invariant-loop-member
invariant-loop-member l = record {
  len : length l.marks.items ≡ length l.fn.marks.items;
  marked : (u : ℕ) → get_or l.marks.items u false ≡ has (take l.member-index l.members) u;
}
