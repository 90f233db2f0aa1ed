use Rattle.std.specs.Prelude.{IsTrue}
use Rattle.std.specs.List.{list_all, range_with_len}
use Rattle.mono_trees.specs.Tells.{same_label}
use Rattle.mono_trees.proofs.components.Components.are_all_joined.Given as goal

abbrev pub invariant-loop-node : goal.invariant-loop-node
invariant-loop-node l = IsTrue (list_all (same_label l.self-inside.labels.items 0) (range_with_len 0 l.node))
