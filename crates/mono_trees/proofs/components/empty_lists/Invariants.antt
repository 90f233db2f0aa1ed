use Rattle.std.proofs.Common.{◌≡◌, [], length}
use Rattle.std.specs.Prelude.{All}
use Rattle.mono_trees.proofs.components.empty_lists.Given as goal

abbrev pub invariant-loop-label : goal.invariant-loop-label
invariant-loop-label l = record {
  len : length l.lists.items ≡ l._label;
  empty : All (λ list. list.items ≡ []) l.lists.items;
}
