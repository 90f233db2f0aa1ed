use Rattle.std.proofs.Common.{◌≡◌, ◌≤◌}
use Rattle.mono_flows.specs.Flowing.{IsFlowTowards}
use Rattle.mono_flows.specs.Levels.{AreLevels, IsLevelPath}
use Rattle.mono_flows.proofs.blocking_flow.add_blocking_flow.Given as goal

abbrev pub invariant-loop-step : goal.invariant-loop-step
invariant-loop-step l = record {
  flow : IsFlowTowards l.network l.goal l.flow;
  more : l.fn.flow.value ≤ l.flow.value;
  levels : AreLevels l.network.graph.now.nodes l.levels;
  same : l.levels.levels.items ≡ l.fn.levels.levels.items;
  path : IsLevelPath l.network l.flow l.levels.levels.items l.goal l.path.items;
}
