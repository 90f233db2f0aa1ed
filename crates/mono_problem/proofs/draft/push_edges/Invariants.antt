use Rattle.std.proofs.Common.{◌≡◌, ◌++◌, map}
use Rattle.std.specs.List.{range_with_len}
use Rattle.mono_problem.specs.Uses.{edge_use}
use Rattle.mono_problem.proofs.draft.push_edges.Given as goal

abbrev pub invariant-loop-edge : goal.invariant-loop-edge
invariant-loop-edge l = l.all.items ≡ l.initial.all.items ++ map (edge_use l.place l.graph) (range_with_len 0 l.edge)
