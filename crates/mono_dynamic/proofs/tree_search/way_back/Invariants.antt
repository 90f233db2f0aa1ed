use Rattle.std.proofs.Common.{◌≡◌}
use Rattle.std.specs.Prelude.{vec_capacity}
use Rattle.mono_dynamic.proofs.SearchTrees.{IsGoing}
use Rattle.mono_dynamic.proofs.tree_search.way_back.Given as goal

abbrev pub invariant-loop-at : goal.invariant-loop-at
invariant-loop-at l = record {
  going : IsGoing l.found.arrivals l.tree.arrivals l.last l.at l.way.items;
  room : vec_capacity l.way ≡ vec_capacity l.fn.way;
}

abbrev pub decreases-loop-at : goal.decreases-loop-at
decreases-loop-at l = l.at
