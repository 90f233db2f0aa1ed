use Rattle.std.proofs.Common.{◌≡◌, ◌<◌, vec_len}
use Rattle.std.specs.Prelude.{All}
use Rattle.mono_mend.proofs.landmarks.relax.Given as goal

abbrev pub invariant-loop-place : goal.invariant-loop-place
invariant-loop-place l = record {
  len : vec_len l.distances ≡ l.graph.nodes;
  waiting : All (λ u. u < l.graph.nodes) l.waiting.items;
}
