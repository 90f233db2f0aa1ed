use Rattle.std.proofs.Common.{◌≡◌, length}
use Rattle.mono_search.proofs.inputs.mark.Given as goal

abbrev pub invariant-loop-lit : goal.invariant-loop-lit
invariant-loop-lit l = length l.marks.items ≡ length l.fn.marks.items
