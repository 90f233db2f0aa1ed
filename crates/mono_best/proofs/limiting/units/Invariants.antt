use Rattle.std.proofs.Common.{◌≡◌}
use Rattle.mono_best.proofs.limiting.units.Given as goal

abbrev pub invariant-loop-pass : goal.invariant-loop-pass
invariant-loop-pass l = l.said.vars ≡ l.problem.vars
