use Rattle.std.proofs.Common.{take}
use Rattle.mono_base.specs.Literal.{without}
use Rattle.mono_learn.specs.Minimizing.{IsCovered}
use Rattle.mono_learn.proofs.minimize.is_covered.Given as goal

abbrev pub invariant-loop-lit : goal.invariant-loop-lit
invariant-loop-lit l = IsCovered l.trail.lits l.seen (without (take l.lit-index l.clause) l.skip)
