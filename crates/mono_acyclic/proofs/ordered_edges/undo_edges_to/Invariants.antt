use Rattle.std.proofs.Common.{◌-◌, ◌≤◌}
use Rattle.mono_acyclic.specs.Orders.{IsOrderedTo}
use Rattle.mono_acyclic.proofs.ordered_edges.undo_edges_to.Given as goal

abbrev pub invariant-back : goal.invariant-back
invariant-back l = record {
  low : l.kept ≤ l.at;
  high : l.at ≤ l.looked;
  ordered : IsOrderedTo l.frame l.at l.ordered;
}

abbrev pub decreases-back : goal.decreases-back
decreases-back l = l.at - l.kept
