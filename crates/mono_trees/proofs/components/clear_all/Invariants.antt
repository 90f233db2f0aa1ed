use Rattle.std.proofs.Common.{◌≡◌, ◌<◌, ℕ, [], length, get_or}
use Rattle.mono_trees.specs.Lists.{lists_of}
use Rattle.mono_trees.proofs.components.clear_all.Given as goal

abbrev pub invariant-loop-label : goal.invariant-loop-label
invariant-loop-label l = record {
  len : length l.lists ≡ length l.initial.lists;
  empty : (k : ℕ) → k < l.label → get_or (lists_of l.lists) k [] ≡ [];
}
