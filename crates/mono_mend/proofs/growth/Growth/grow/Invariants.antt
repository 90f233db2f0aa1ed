use Rattle.mono_mend.specs.Growing.{IsGrowth}
use Rattle.mono_mend.proofs.growth.Growth.grow.Given as goal

abbrev pub invariant-loop-place : goal.invariant-loop-place
invariant-loop-place l = IsGrowth l.torn.graph.now l.self
