-- What is kept of the nodes that are reached from one source.
use Rattle.std.specs.Prelude.{◌≡◌, ℕ, ◌<◌, ◌≤◌, ◌⊎◌, Bool, false, List, drop, length, slice_index_or, IsTrue, All, Option, None, Some}
use Rattle.mono_base.specs.declared.limits.TheConstants.{MAX_NODES}
use Rattle.mono_graph.specs.Digraph.{Digraph, edge_at, present, has}
use Rattle.mono_dynamic.specs.declared.arrival.Arrival.{Arrival}
use Rattle.mono_dynamic.specs.Arrivals.{arrival_at, at_source, reached, is_reached, within, IsTree}

-- the number of nodes, the source and how each node was reached, in order
pub record Reached : Type 0 where
  pub nodes : ℕ
  pub source : ℕ
  pub arrivals : List Arrival

-- by node: which arrival is its own, if it has one
pub record ArePlaced (positions : List ℕ) (xs : List Arrival) : Type 0 where
  pub each : (i : ℕ) → i < length xs → ((arrival_at xs i).node < length positions) × (slice_index_or positions (arrival_at xs i).node 0 ≡ i)

-- the arrivals begin at the source, each other comes by an earlier one, and their stamps never fall
pub record AreOrdered (u : ℕ) (xs : List Arrival) : Type 0 where
  pub some : 0 < length xs
  pub first : arrival_at xs 0 ≡ at_source u
  pub before : (i : ℕ) → 0 < i → i < length xs → (arrival_at xs i).before < i
  pub rising : (i j : ℕ) → i ≤ j → j < length xs → (arrival_at xs i).stamp ≤ (arrival_at xs j).stamp

-- and there is room for an arrival of each node
pub record IsKept (u : ℕ) (positions : List ℕ) (xs : List Arrival) (room : ℕ) : Type 0 where
  pub few : length positions ≤ MAX_NODES
  pub roomy : length positions ≤ room
  pub placed : ArePlaced positions xs
  pub ordered : AreOrdered u xs

-- which arrival is the node's, or that it has none
abbrev pub IsArrivalOf : List Arrival → ℕ → Option ℕ → Type 0
IsArrivalOf xs v None = is_reached xs v ≡ false
IsArrivalOf xs v (Some i) = (i < length xs) × ((arrival_at xs i).node ≡ v)

-- an edge that leaves a reached node leads to one, or leaves an arrival from the place h on, or is one of these
pub record IsSpread (g : Digraph) (P : List Bool) (xs : List Arrival) (h : ℕ) (ks : List ℕ) : Type 0 where
  pub each : (k : ℕ) → k < length g.edges → IsTrue (present P k) → IsTrue (is_reached xs (edge_at g k).from)
      → (IsTrue (is_reached xs (edge_at g k).to) ⊎ IsTrue (has (drop h (reached xs)) (edge_at g k).from)) ⊎ IsTrue (has ks k)

-- of these edges those that remain are still to be followed
pub record AreFollowed (g : Digraph) (P : List Bool) (stamp : ℕ) (places remaining : List ℕ) (old new : Reached) : Type 0 where
  pub nodes : new.nodes ≡ old.nodes
  pub source : new.source ≡ old.source
  pub grows : length old.arrivals ≤ length new.arrivals
  pub stamps : All (λ a. a.stamp ≤ stamp) new.arrivals
  pub earlier : (m : ℕ) → m < stamp → within m new.arrivals ≡ within m old.arrivals
  pub tree : (u : ℕ) → IsTree g P u old.arrivals → IsTree g P u new.arrivals
  pub spread : (h : ℕ) → h ≤ length old.arrivals → IsSpread g P old.arrivals h places → IsSpread g P new.arrivals h remaining
