use Rattle.std.proofs.Common.{ℕ, ◌+◌, ◌*◌, ◌-◌, ◌⊎◌, length}
use Rattle.std.specs.Prelude.{IsTrue}
use Rattle.mono_graph.specs.Digraph.{has}
use Rattle.mono_cycles.specs.Searches.{IsCycleSearch}
use Rattle.mono_cycles.proofs.search.CycleSearch.search_from.Given as goal

abbrev pub invariant-back : goal.invariant-back
invariant-back l = record {
  search : IsCycleSearch l.graph l.part l.self;
  root : IsTrue (has l.self.path.items l.root) ⊎ IsTrue (has l.self.order.items l.root);
  before : (u : ℕ) → IsTrue (has l.fn.self.order.items u) → IsTrue (has l.self.order.items u);
}

abbrev pub decreases-back : goal.decreases-back
decreases-back l = 2 * l.graph.nodes - (2 * length l.self.order.items + length l.self.path.items)
