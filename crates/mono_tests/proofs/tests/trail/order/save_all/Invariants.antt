use Rattle.std.proofs.Common.{◌≡◌, length}
use Rattle.mono_tests.proofs.tests.trail.order.save_all.Given as goal

abbrev pub invariant-loop-lit : goal.invariant-loop-lit
invariant-loop-lit l = length l.order.waits ≡ length l.fn.order.waits
