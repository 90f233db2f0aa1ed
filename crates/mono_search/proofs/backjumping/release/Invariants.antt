use Rattle.std.proofs.Common.{take}
use Rattle.mono_search.specs.Runs.{Releases}
use Rattle.mono_search.proofs.backjumping.release.Given as goal

abbrev pub invariant-loop-lit : goal.invariant-loop-lit
invariant-loop-lit l = Releases l.fn.order l.order (take l.lit-index l.lits)
