-- Flows in the making.
use Rattle.std.specs.Prelude.{◌≡◌, ◌≢◌, ℕ, ◌+◌, ◌<◌, ◌≤◌, All, Bool, IsTrue, List, length}
use Rattle.mono_graph.specs.Digraph.{Digraph, has, is_distinct}
use Rattle.mono_base.specs.declared.limits.TheConstants.{MAX_BOUND, MAX_WITNESS_VALUE}
use Rattle.mono_graph.specs.Flows.{inflow, outflow}
use Rattle.mono_graph.specs.declared.amount.Amount.{Amount}
use Rattle.mono_flows.specs.Listed.{edges_of}
use Rattle.mono_flows.specs.declared.network.Network.{Network}
use Rattle.mono_flows.specs.declared.flow.Flow.{Flow}
use Rattle.mono_flows.specs.Residual.{amount_of, capacity}
use Rattle.mono_flows.specs.declared.search.AugmentingSearch.{AugmentingSearch}
use Rattle.mono_flows.specs.Visits.{AreMarks, IsBlocked, IsFlowSearch}

-- a flow from s to t of this value, which no amount exceeds
pub record IsFlowing (g : Digraph) (P : List Bool) (s t : ℕ) (f : ℕ → ℕ) (value : ℕ) : Type 0 where
  pub within : (k : ℕ) → k < length g.edges → f k ≤ capacity g P k
  pub balanced : (u : ℕ) → (u ≢ s) → (u ≢ t) → inflow g f u ≡ outflow g f u
  pub source : outflow g f s ≡ inflow g f s + value
  pub small : (k : ℕ) → f k ≤ value

-- a flow in the network of the value that it says, which knows the edges that carry something
pub record IsFlow (n : Network) (flow : Flow) : Type 0 where
  pub len : length flow.amounts.items ≡ length n.graph.now.edges
  pub known : All (λ k. k < length n.graph.now.edges) flow.touched.items
  pub touched : (k : ℕ) → 0 < amount_of flow.amounts.items k → IsTrue (has flow.touched.items k)
  pub flowing : IsFlowing n.graph.now n.part.now n.source n.sink (amount_of flow.amounts.items) flow.value

-- amounts of different edges of the graph, which are small and not 0
pub record IsListing (n : Network) (amounts : List Amount) : Type 0 where
  pub distinct : IsTrue (is_distinct (edges_of amounts))
  pub known : All (λ a. a.edge < length n.graph.now.edges) amounts
  pub small : All (λ a. a.amount ≤ MAX_WITNESS_VALUE) amounts
  pub carrying : All (λ a. 0 < a.amount) amounts

-- a flow between two nodes, of at most the goal, which is so small that no sum overflows
pub record IsFlowTowards (n : Network) (goal : ℕ) (f : Flow) : Type 0 where
  pub apart : n.source ≢ n.sink
  pub small : goal ≤ MAX_BOUND + 1
  pub flow : IsFlow n f
  pub most : f.value ≤ goal

-- the search has ended: as much is carried as is asked for, or no edge with capacity left leads out of the marked nodes, which
-- are those visited
pub record HasEnded (n : Network) (goal : ℕ) (f : Flow) (last : AugmentingSearch) : Type 0 where
  pub flow : IsFlowTowards n goal f
  pub search : IsFlowSearch n.graph.now.nodes last
  pub marks : f.value < goal → AreMarks n.graph.now last.marks.items last.visits.items
  pub blocked : f.value < goal → IsBlocked n.graph.now n.part.now (amount_of f.amounts.items) n.source n.sink last.marks.items
