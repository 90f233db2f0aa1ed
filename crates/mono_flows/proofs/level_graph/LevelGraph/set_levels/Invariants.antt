use Rattle.std.proofs.Common.{◌≡◌, length, get_or}
use Rattle.mono_flows.specs.Levels.{AreLevels}
use Rattle.mono_flows.proofs.level_graph.LevelGraph.set_levels.Given as goal

abbrev pub invariant-loop-visit : goal.invariant-loop-visit
invariant-loop-visit l = record {
  levels : AreLevels (length l.initial.self.levels.items) l.self;
  source : get_or l.self.levels.items l.source 0 ≡ 0;
}
