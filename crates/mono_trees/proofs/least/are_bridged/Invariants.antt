use Rattle.std.proofs.Common.{◌≡◌, ◌<◌, ◌≤◌, ℕ, take, length, get_or}
use Rattle.std.specs.Prelude.{IsTrue}
use Rattle.std.specs.List.{list_all}
use Rattle.mono_graph.specs.Digraph.{edge_at}
use Rattle.mono_graph.specs.Trees.{edges_at, is_bridged}
use Rattle.mono_trees.specs.Tells.{Tells}
use Rattle.mono_trees.proofs.least.are_bridged.Given as goal

abbrev pub invariant-loop-place : goal.invariant-loop-place
invariant-loop-place l = record {
  len : length l.components ≡ l.graph.nodes;
  tells : Tells (edges_at l.graph (take l.at l.tree)) l.components;
  within : l.at ≤ length l.tree;
  light : (i j : ℕ) → i < l.at → l.place-index ≤ j → j < length l.edges → (edge_at l.graph (get_or l.tree i 0)).weight ≤ (edge_at l.graph (get_or l.edges j 0)).weight;
  tested : IsTrue (list_all (λ k. is_bridged l.graph l.tree (edge_at l.graph k)) (take l.place-index l.edges));
}
