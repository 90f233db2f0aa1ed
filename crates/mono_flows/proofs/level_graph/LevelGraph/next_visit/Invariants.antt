use Rattle.std.proofs.Common.{◌≡◌}
use Rattle.mono_flows.specs.Levels.{AreLevels}
use Rattle.mono_flows.proofs.level_graph.LevelGraph.next_visit.Given as goal

abbrev pub invariant-loop-number : goal.invariant-loop-number
invariant-loop-number l = record {
  levels : AreLevels l.network.graph.now.nodes l.self;
  same : l.self.levels.items ≡ l.fn.self.levels.items;
}
