use Rattle.std.proofs.Common.{◌≡◌}
use Rattle.mono_search.proofs.inputs.hold_back_idle.Given as goal

abbrev pub invariant-loop-place : goal.invariant-loop-place
invariant-loop-place l = l.order ≡ l.fn.order
