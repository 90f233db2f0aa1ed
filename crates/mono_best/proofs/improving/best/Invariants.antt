use Rattle.std.proofs.Common.{◌≤◌, ◌+◌, ◌-◌, All}
use Rattle.mono_base.specs.declared.limits.TheConstants.{MAX_BOUND}
use Rattle.mono_base.specs.Literal.{IsLitWithin}
use Rattle.mono_best.specs.Best.{IsMetBefore}
use Rattle.mono_best.proofs.improving.best.Given as goal

abbrev pub invariant-loop-signs : goal.invariant-loop-signs
invariant-loop-signs g l = (l.number ≤ MAX_BOUND + 1) × IsMetBefore l.problem l.atom l.number l.met × All (IsLitWithin (l.problem.vars + 1)) l.signs.items

abbrev pub decreases-loop-signs : goal.decreases-loop-signs
decreases-loop-signs g l = MAX_BOUND + 2 - l.number
