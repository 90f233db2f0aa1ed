use Rattle.std.proofs.Common.{◌≡◌}
use Rattle.mono_tests.proofs.tests.base.sets_have_what_was_put_in.Given as goal

abbrev pub invariant-loop-step : goal.invariant-loop-step
invariant-loop-step g l = l.set.vars ≡ 3
