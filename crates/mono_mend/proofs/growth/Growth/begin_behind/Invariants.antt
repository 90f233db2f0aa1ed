use Rattle.std.proofs.Common.{◌<◌, ◌≤◌, ◌-◌, length}
use Rattle.mono_mend.specs.Growing.{IsGrowth}
use Rattle.mono_mend.proofs.growth.Growth.begin_behind.Given as goal

abbrev pub invariant-loop-at : goal.invariant-loop-at
invariant-loop-at l = record {
  within : l.at ≤ length l.torn.edges.now;
  node : l.node < l.torn.graph.now.nodes;
  growth : IsGrowth l.torn.graph.now l.self;
}

abbrev pub decreases-loop-at : goal.decreases-loop-at
decreases-loop-at l = l.at - l.first
