use Rattle.std.proofs.Common.{◌≡◌, filter}
use Rattle.std.specs.List.{range_with_len}
use Rattle.mono_trees.specs.Tells.{same_label}
use Rattle.mono_trees.proofs.forest.first_component.Given as goal

abbrev pub invariant-loop-node : goal.invariant-loop-node
invariant-loop-node l = l.nodes.items ≡ filter (same_label l.components 0) (range_with_len 0 l.node)
