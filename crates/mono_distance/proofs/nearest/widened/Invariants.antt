use Rattle.std.proofs.Common.{◌≡◌, ◌<◌, ℕ, length}
use Rattle.std.specs.Prelude.{IsTrue}
use Rattle.mono_graph.specs.Digraph.{present}
use Rattle.mono_distance.proofs.nearest.widened.Given as goal

abbrev pub invariant-loop-place : goal.invariant-loop-place
invariant-loop-place l = record {
  len : length l.wide ≡ length l.graph.edges;
  within : (k : ℕ) → k < l.place → IsTrue (present l.part k) → IsTrue (present l.wide k);
}
