use Rattle.std.proofs.Common.{◌≡◌}
use Rattle.mono_best.proofs.limiting.add_units.Given as goal

abbrev pub invariant-loop-place : goal.invariant-loop-place
invariant-loop-place l = l.said.vars ≡ l.fn.said.vars
