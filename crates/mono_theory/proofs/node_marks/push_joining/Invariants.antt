use Rattle.std.proofs.Common.{◌≡◌, ◌++◌, take, filter, not, ◌&&◌}
use Rattle.mono_graph.specs.Digraph.{edge_at, present}
use Rattle.mono_theory.specs.Resting.{is_joining}
use Rattle.mono_theory.proofs.node_marks.push_joining.Given as goal

abbrev pub invariant-loop-place : goal.invariant-loop-place
invariant-loop-place l = l.edges.items ≡ l.initial.edges.items ++ filter (λ k. not (present l.part k) && is_joining l.marks (edge_at l.graph k)) (take l.place-index l.places)
