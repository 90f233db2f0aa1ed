use Rattle.std.proofs.Common.{◌≡◌, ℕ, ◌<◌, length}
use Rattle.std.specs.Prelude.{IsTrue}
use Rattle.mono_graph.specs.Digraph.{edge_at, present}
use Rattle.mono_dynamic.specs.Costs.{change_at, label_of}
use Rattle.mono_dynamic.specs.Ways.{is_lightest}
use Rattle.mono_dynamic.proofs.least_costs.LeastCosts.lightest_part.Given as goal

abbrev pub invariant-loop-change : goal.invariant-loop-change
invariant-loop-change l = record {
  len : length l.light ≡ length l.graph.edges;
  only : (k : ℕ) → IsTrue (present l.light k) → IsTrue (is_lightest l.graph l.part l.self.limit l.self.labels k);
  source : (k : ℕ) → k < length l.graph.edges → (edge_at l.graph k).from ≡ l.source → IsTrue (is_lightest l.graph l.part l.self.limit l.self.labels k) → IsTrue (present l.light k);
  each : (j k : ℕ) → j < l.change-index → (change_at l.self.changes j).label ≡ label_of l.self.labels (change_at l.self.changes j).node → k < length l.graph.edges → (edge_at l.graph k).from ≡ (change_at l.self.changes j).node
      → IsTrue (is_lightest l.graph l.part l.self.limit l.self.labels k) → IsTrue (present l.light k);
}
