use Rattle.std.proofs.Common.{◌≡◌, take}
use Rattle.mono_learn.specs.Levels.{highest_of}
use Rattle.mono_learn.proofs.levels.highest.Given as goal

abbrev pub invariant-loop-lit : goal.invariant-loop-lit
invariant-loop-lit l = l.most ≡ highest_of l.trail (take l.lit-index l.lits)
