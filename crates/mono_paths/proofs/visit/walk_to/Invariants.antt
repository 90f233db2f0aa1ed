use Rattle.std.proofs.Common.{◌≡◌, ◌<◌, ◌+◌, length, reverse}
use Rattle.std.specs.Prelude.{All, IsTrue}
use Rattle.std.specs.List.{list_all}
use Rattle.mono_graph.specs.Digraph.{is_place, present}
use Rattle.mono_graph.specs.Walks.{leads, cost_along}
use Rattle.mono_paths.specs.Trails.{visit_at}
use Rattle.mono_paths.proofs.visit.walk_to.Given as goal

abbrev pub invariant-loop-at : goal.invariant-loop-at
invariant-loop-at l = record {
  inside : l.at < length l.visits;
  way : IsTrue (leads l.graph (visit_at l.visits l.at).node (reverse l.walk.items) (visit_at l.visits l.fn.last).node);
  places : IsTrue (list_all (is_place l.graph) (reverse l.walk.items));
  here : IsTrue (list_all (present l.part) (reverse l.walk.items));
  known : All (λ k. k < length l.graph.edges) (reverse l.walk.items);
  cost : (visit_at l.visits l.at).cost + cost_along l.fn.limit l.graph (reverse l.walk.items) ≡ (visit_at l.visits l.fn.last).cost;
}

abbrev pub decreases-loop-at : goal.decreases-loop-at
decreases-loop-at l = l.at
