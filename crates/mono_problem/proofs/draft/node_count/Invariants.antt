use Rattle.std.proofs.Common.{ℕ, ◌≡◌, sum_by, take}
use Rattle.mono_graph.specs.Digraph.{Digraph}
use Rattle.mono_problem.proofs.draft.node_count.Given as goal

abbrev pub invariant-loop-place : goal.invariant-loop-place
invariant-loop-place l = l.count ≡ sum_by (λ (g : ℕ × Digraph). g.1.nodes) (take l.place l.graphs.entries)
