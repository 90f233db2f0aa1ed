use Rattle.std.proofs.Common.{◌-◌}
use Rattle.mono_flows.specs.Flowing.{IsFlowTowards}
use Rattle.mono_flows.specs.Visits.{IsFlowSearch}
use Rattle.mono_flows.specs.Levels.{AreLevels}
use Rattle.mono_flows.proofs.finder.grow.Given as goal

abbrev pub invariant-loop-flow : goal.invariant-loop-flow
invariant-loop-flow l = record {
  flow : IsFlowTowards l.network l.goal l.flow;
  search : IsFlowSearch l.network.graph.now.nodes l.search;
  levels : AreLevels l.network.graph.now.nodes l.levels;
}

abbrev pub decreases-loop-flow : goal.decreases-loop-flow
decreases-loop-flow l = l.goal - l.flow.value
