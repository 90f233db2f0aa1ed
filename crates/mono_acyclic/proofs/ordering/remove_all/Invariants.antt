use Rattle.std.proofs.Common.{◌≡◌, ℕ, not, ◌&&◌, length, take}
use Rattle.std.specs.Prelude.{IsTrue}
use Rattle.mono_graph.specs.Digraph.{Digraph, has, present}
use Rattle.mono_graph.specs.Cycles.{is_order}
use Rattle.mono_acyclic.proofs.ordering.remove_all.Given as goal

abbrev pub invariant-loop-place : goal.invariant-loop-place
invariant-loop-place l = record {
  size : length l.ordered.order ≡ length l.fn.ordered.order;
  part_size : length l.ordered.part ≡ length l.fn.ordered.part;
  part : (k : ℕ) → present l.ordered.part k ≡ (not (has (take l.place-index l.places) k) && present l.fn.ordered.part k);
  order : (g : Digraph) → IsTrue (is_order g l.fn.ordered.part l.fn.ordered.order) → IsTrue (is_order g l.ordered.part l.ordered.order);
}
