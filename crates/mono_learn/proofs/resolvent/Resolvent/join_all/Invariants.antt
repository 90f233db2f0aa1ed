use Rattle.std.proofs.Common.{take}
use Rattle.mono_base.specs.Literal.{without}
use Rattle.mono_learn.specs.Joins.{Joins}
use Rattle.mono_learn.proofs.resolvent.Resolvent.join_all.Given as goal

abbrev pub invariant-loop-lit : goal.invariant-loop-lit
invariant-loop-lit l = Joins l.trail.lits l.start l.fn.self l.self (without (take l.lit-index l.clause) l.skip)
