use Rattle.std.proofs.Common.{◌≡◌, take, length}
use Rattle.mono_graph.specs.Trees.{edges_at}
use Rattle.mono_trees.specs.Tells.{Tells}
use Rattle.mono_trees.proofs.spanning.join_all.Given as goal

abbrev pub invariant-loop-place : goal.invariant-loop-place
invariant-loop-place l = record {
  len : length l.components ≡ l.graph.nodes;
  tells : Tells (edges_at l.graph (take l.place-index l.edges)) l.components;
}
