use Rattle.std.proofs.Common.{◌≡◌}
use Rattle.mono_steps.proofs.SetSteps.{IsJoinedTo}
use Rattle.mono_steps.proofs.resolving.join.Given as goal

abbrev pub invariant-loop-lit : goal.invariant-loop-lit
invariant-loop-lit l = (l.set.vars ≡ l.fn.set.vars) × IsJoinedTo l.fn.set.members l.set.members l.next l.fn.out l.fn.other l.lit-index
