use Rattle.std.proofs.Common.{◌≤◌}
use Rattle.std.specs.Prelude.{vec_capacity}
use Rattle.mono_graph.specs.Cycles.{rank_in}
use Rattle.mono_cycles.proofs.Found.{IsWayOn}
use Rattle.mono_cycles.proofs.behind.Behind.walk_on.Given as goal

abbrev pub invariant-loop-at : goal.invariant-loop-at
invariant-loop-at l = record {
  way : IsWayOn l.graph l.part l.self.nodes.items l.from l.at l.fn.walk.items l.walk.items;
  capacity : vec_capacity l.fn.walk ≤ vec_capacity l.walk;
}

abbrev pub decreases-loop-at : goal.decreases-loop-at
decreases-loop-at l = rank_in l.self.nodes.items l.at
