use Rattle.std.proofs.Common.{◌≡◌}
use Rattle.mono_search.proofs.memory.save_known.Given as goal

abbrev pub invariant-loop-place : goal.invariant-loop-place
invariant-loop-place l = l.order.waits ≡ l.fn.order.waits
