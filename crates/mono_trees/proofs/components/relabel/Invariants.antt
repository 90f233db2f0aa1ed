use Rattle.std.proofs.Common.{◌≡◌, ℕ, take, get_or, cond}
use Rattle.mono_graph.specs.Digraph.{has}
use Rattle.mono_trees.proofs.components.relabel.Given as goal

abbrev pub invariant-loop-node : goal.invariant-loop-node
invariant-loop-node l = (u : ℕ) → get_or l.labels u 0 ≡ cond (has (take l.node-index l.nodes) u) l.label (get_or l.initial.labels u 0)
