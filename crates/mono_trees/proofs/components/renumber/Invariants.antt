use Rattle.std.proofs.Common.{◌≡◌, ◌<◌, ℕ, length, get_or}
use Rattle.mono_trees.proofs.components.renumber.Given as goal

abbrev pub invariant-loop-node : goal.invariant-loop-node
invariant-loop-node l = record {
  len : length l.labels ≡ length l.initial.labels;
  own : (u : ℕ) → u < l.node → get_or l.labels u 0 ≡ u;
}
