use Rattle.std.proofs.Common.{◌≡◌, ◌<◌, vec_len}
use Rattle.std.specs.Prelude.{All}
use Rattle.mono_mend.proofs.landmarks.distances_from.Given as goal

abbrev pub invariant-loop-turn : goal.invariant-loop-turn
invariant-loop-turn l = record {
  len : vec_len l.distances ≡ l.graph.nodes;
  waiting : All (λ u. u < l.graph.nodes) l.waiting.items;
}
