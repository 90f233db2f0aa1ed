use Rattle.std.proofs.Common.{◌≡◌, ◌<◌, ◌≤◌, ◌-◌, ℕ, take, length, get_or}
use Rattle.mono_graph.specs.Digraph.{edge_at}
use Rattle.mono_graph.specs.Trees.{edges_at}
use Rattle.mono_trees.specs.Tells.{Tells}
use Rattle.mono_trees.proofs.least.advance.Given as goal

abbrev pub invariant-loop-at : goal.invariant-loop-at
invariant-loop-at l = record {
  len : length l.components ≡ l.graph.nodes;
  tells : Tells (edges_at l.graph (take l.at l.tree)) l.components;
  within : l.at ≤ length l.tree;
  light : (i : ℕ) → i < l.at → (edge_at l.graph (get_or l.tree i 0)).weight ≤ l.weight;
}

abbrev pub decreases-loop-at : goal.decreases-loop-at
decreases-loop-at l = length l.tree - l.at
