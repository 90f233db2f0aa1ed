use Rattle.std.proofs.Common.{ℕ, ◌<◌, get_or}
use Rattle.std.specs.Prelude.{IsTrue}
use Rattle.mono_graph.specs.Digraph.{edge_at, has, present}
use Rattle.mono_flow.specs.Growing.{IsJoined}
use Rattle.mono_flow.proofs.growing.join_ends.Given as goal

abbrev pub invariant-loop-place : goal.invariant-loop-place
invariant-loop-place l = record {
  joined : IsJoined l.graph l.fn.marks.items l.fn.set.items l.marks.items l.set.items;
  closed : (i : ℕ) → i < l.place-index → IsTrue (present l.part (get_or l.places i 0)) → IsTrue (has l.set.items (edge_at l.graph (get_or l.places i 0)).to);
}
