use Rattle.mono_mend.specs.Growing.{IsGrowth}
use Rattle.mono_mend.proofs.growth.Growth.meet.Given as goal

abbrev pub invariant-loop-turn : goal.invariant-loop-turn
invariant-loop-turn l = IsGrowth l.torn.graph.now l.self
