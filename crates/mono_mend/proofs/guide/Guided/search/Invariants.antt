use Rattle.mono_mend.specs.Growing.{IsGrowth}
use Rattle.mono_mend.specs.Guiding.{AreWithin}
use Rattle.mono_mend.proofs.guide.Guided.search.Given as goal

abbrev pub invariant-loop-step : goal.invariant-loop-step
invariant-loop-step l = record {
  growth : IsGrowth l.self.torn.graph.now l.growth;
  waiting : AreWithin l.self.torn.graph.now.nodes l.frontier;
}
