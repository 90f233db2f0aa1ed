use Rattle.std.proofs.Common.{◌<◌}
use Rattle.mono_mend.specs.Growing.{IsGrowth}
use Rattle.mono_mend.proofs.growth.Growth.begin_front.Given as goal

abbrev pub invariant-loop-at : goal.invariant-loop-at
invariant-loop-at l = record {
  node : l.node < l.torn.graph.now.nodes;
  growth : IsGrowth l.torn.graph.now l.self;
}
