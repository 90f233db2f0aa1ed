use Rattle.std.proofs.Common.{◌≡◌, filter, not, ◌&&◌}
use Rattle.std.specs.Prelude.{slice_index}
use Rattle.std.specs.List.{range_with_len}
use Rattle.mono_graph.specs.Digraph.{edge_at, present}
use Rattle.mono_graph.specs.Cycles.{rises}
use Rattle.mono_acyclic.proofs.acyclic.absent_falling.Given as goal

abbrev pub invariant-loop-place : goal.invariant-loop-place
invariant-loop-place l = l.edges.items ≡ filter (λ k. not (present l.part k) && not (rises (λ u. slice_index l.ranks u) (edge_at l.graph k))) (range_with_len 0 l.place)
