use Rattle.std.proofs.Common.{◌≡◌, ◌≤◌, ◌*◌, ◌^◌, take}
use Rattle.mono_graph.specs.Digraph.{weight_of}
use Rattle.mono_graph.proofs.graph.Graph.weight_of.Given as goal

abbrev pub invariant-loop-place : goal.invariant-loop-place
invariant-loop-place l = record {
  exact : l.weight ≡ weight_of l.self (take l.place-index l.places);
  bound : l.weight ≤ l.place-index * 2 ^ 64;
}
