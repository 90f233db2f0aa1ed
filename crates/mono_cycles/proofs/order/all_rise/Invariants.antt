use Rattle.std.proofs.Common.{get_or, not, ◌||◌}
use Rattle.std.specs.Prelude.{IsTrue}
use Rattle.std.specs.List.{list_all, range_with_len}
use Rattle.mono_graph.specs.Digraph.{edge_at, present}
use Rattle.mono_graph.specs.Cycles.{rises}
use Rattle.mono_cycles.proofs.order.all_rise.Given as goal

abbrev pub invariant-loop-place : goal.invariant-loop-place
invariant-loop-place l = IsTrue (list_all (λ k. not (present l.part k) || rises (λ u. get_or l.ranks u 0) (edge_at l.graph k)) (range_with_len 0 l.place))
