use Rattle.std.proofs.Common.{◌≡◌, ℕ, ◌<◌, ◌⊎◌, get_or, length}
use Rattle.std.specs.Prelude.{IsTrue}
use Rattle.mono_graph.specs.Digraph.{present}
use Rattle.mono_dynamic.specs.Ways.{is_lightest}
use Rattle.mono_dynamic.proofs.least_costs.LeastCosts.put_leaving.Given as goal

abbrev pub invariant-loop-place : goal.invariant-loop-place
invariant-loop-place l = record {
  len : length l.light ≡ length l.graph.edges;
  more : (k : ℕ) → IsTrue (present l.fn.light k) → IsTrue (present l.light k);
  only : (k : ℕ) → IsTrue (present l.light k) → IsTrue (present l.fn.light k) ⊎ IsTrue (is_lightest l.graph l.part l.self.limit l.self.labels k);
  done : (j : ℕ) → j < l.place-index → IsTrue (is_lightest l.graph l.part l.self.limit l.self.labels (get_or l.place-items j 0)) → IsTrue (present l.light (get_or l.place-items j 0));
}
