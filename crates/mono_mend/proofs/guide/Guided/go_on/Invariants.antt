use Rattle.mono_mend.specs.Growing.{IsGrowth}
use Rattle.mono_mend.specs.Guiding.{AreWithin}
use Rattle.mono_mend.proofs.guide.Guided.go_on.Given as goal

abbrev pub invariant-loop-place : goal.invariant-loop-place
invariant-loop-place l = record {
  growth : IsGrowth l.self.torn.graph.now l.growth;
  waiting : AreWithin l.self.torn.graph.now.nodes l.frontier;
}
