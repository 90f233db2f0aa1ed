use Rattle.std.proofs.Common.{◌-◌}
use Rattle.mono_best.specs.Leaps.{IsGap}
use Rattle.mono_best.proofs.leaping.last_found.Given as goal

abbrev pub invariant-loop-alloc : goal.invariant-loop-alloc
invariant-loop-alloc g l = IsGap l.problem l.atom l.number l.gap

abbrev pub decreases-loop-alloc : goal.decreases-loop-alloc
decreases-loop-alloc g l = l.gap.high - l.gap.low
