use Rattle.std.proofs.Common.{◌≡◌, ◌<◌, All, length}
use Rattle.mono_reach.proofs.nearest.leading_to.Given as goal

abbrev pub invariant-loop-at : goal.invariant-loop-at
invariant-loop-at l = record {
  len : length l.found.items ≡ l.graph.nodes;
  waiting : All (λ u. u < l.graph.nodes) l.waiting.items;
}

abbrev pub invariant-loop-place : goal.invariant-loop-place
invariant-loop-place l = record {
  len : length l.found.items ≡ l.graph.nodes;
  waiting : All (λ u. u < l.graph.nodes) l.waiting.items;
}
