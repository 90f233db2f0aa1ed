-- Trees of walks that are mended: from nodes that a tree lacks a search goes back to the tree.
use Rattle.std.specs.Prelude.{◌≡◌, ◌≢◌, ℕ, ◌<◌, ◌≤◌, ◌⊎◌, ◌↔◌, Bool, List, length, IsTrue, All}
use Rattle.mono_graph.specs.Digraph.{Digraph, edge_at, present, has}
use Rattle.mono_graph.specs.Walks.{is_walk}
use Rattle.mono_dynamic.specs.declared.arrival.Arrival.{Arrival}
use Rattle.mono_dynamic.specs.Arrivals.{arrival_at, is_reached, IsTree}
use Rattle.mono_dynamic.specs.Reached.{Reached}

-- no walk leads from u to the node
abbrev pub IsOut : Digraph → List Bool → ℕ → ℕ → Type 0
IsOut g P u v = (ks : List ℕ) → IsTrue (is_walk g P u v ks) → ⊥

-- The first arrival is at u, and no walk leads from there to the nodes of the others. No stamp is as great as their number.
pub record AreOut (g : Digraph) (P : List Bool) (u : ℕ) (xs : List Arrival) : Type 0 where
  pub some : 0 < length xs
  pub source : (arrival_at xs 0).node ≡ u
  pub out : (i : ℕ) → 0 < i → i < length xs → IsOut g P u (arrival_at xs i).node
  pub below : (i : ℕ) → i < length xs → (arrival_at xs i).stamp < length xs

-- a present edge leads from the node of the arrival at i to that of another one, which has at least the place `first`
pub record IsOnward (g : Digraph) (P : List Bool) (xs : List Arrival) (first i : ℕ) : Type 0 where
  pub held : first ≤ (arrival_at xs i).before
  pub low : (arrival_at xs i).before < i
  pub known : (arrival_at xs i).place < length g.edges
  pub present : IsTrue (present P (arrival_at xs i).place)
  pub from : (edge_at g (arrival_at xs i).place).from ≡ (arrival_at xs i).node
  pub to : (edge_at g (arrival_at xs i).place).to ≡ (arrival_at xs (arrival_at xs i).before).node

-- a search came back to the node, or no walk leads to it
abbrev pub IsBack : Digraph → List Bool → ℕ → ℕ → List Arrival → ℕ → Type 0
IsBack g P u first xs v = ((j : ℕ) × (first ≤ j) × (j < length xs) × ((arrival_at xs j).node ≡ v)) ⊎ IsOut g P u v

-- A search goes back from the node of the arrival at `first`, over the edges that enter the nodes before `head`. It doesn't come
-- to u. No walk leads to the nodes of earlier arrivals, but to u.
pub record IsComing (g : Digraph) (P : List Bool) (u first head : ℕ) (xs : List Arrival) : Type 0 where
  pub begun : 0 < first
  pub held : first ≤ length xs
  pub source : (arrival_at xs 0).node ≡ u
  pub out : (i : ℕ) → 0 < i → i < first → IsOut g P u (arrival_at xs i).node
  pub below : (i : ℕ) → i < first → (arrival_at xs i).stamp < first
  pub stamps : (i : ℕ) → first ≤ i → i < length xs → (arrival_at xs i).stamp ≡ first
  pub other : (i : ℕ) → first ≤ i → i < length xs → (arrival_at xs i).node ≢ u
  pub onward : (i : ℕ) → first < i → i < length xs → IsOnward g P xs first i
  pub closed : (i k : ℕ) → first ≤ i → i < head → i < length xs → k < length g.edges → IsTrue (present P k) → (edge_at g k).to ≡ (arrival_at xs i).node
      → IsBack g P u first xs (edge_at g k).from

-- the arrivals begin with those of xs
pub record IsLonger (xs ys : List Arrival) : Type 0 where
  pub len : length xs ≤ length ys
  pub same : (i : ℕ) → i < length xs → arrival_at ys i ≡ arrival_at xs i

-- a present edge leads from a node of the tree to that of the arrival at a place
pub record IsEntry (g : Digraph) (P : List Bool) (tree xs : List Arrival) (k at : ℕ) : Type 0 where
  pub known : k < length g.edges
  pub present : IsTrue (present P k)
  pub from : IsTrue (is_reached tree (edge_at g k).from)
  pub to : (edge_at g k).to ≡ (arrival_at xs at).node

-- the node to which the edge at a place leads was added to the tree, if it wasn't there
pub record IsExtended (g : Digraph) (k : ℕ) (old new : Reached) : Type 0 where
  pub nodes : new.nodes ≡ old.nodes
  pub source : new.source ≡ old.source
  pub stamps : All (λ a. a.stamp ≤ 0) new.arrivals
  pub tree : (P : List Bool) (u : ℕ) → IsTrue (present P k) → IsTree g P u old.arrivals → IsTree g P u new.arrivals
  pub more : (v : ℕ) → IsTrue (is_reached old.arrivals v) → IsTrue (is_reached new.arrivals v)
  pub there : IsTrue (is_reached new.arrivals (edge_at g k).to)

-- the tree has grown
pub record HasGrown (g : Digraph) (P : List Bool) (old new : Reached) : Type 0 where
  pub nodes : new.nodes ≡ old.nodes
  pub source : new.source ≡ old.source
  pub stamps : All (λ a. a.stamp ≤ 0) new.arrivals
  pub tree : (u : ℕ) → IsTree g P u old.arrivals → IsTree g P u new.arrivals
  pub more : (v : ℕ) → IsTrue (is_reached old.arrivals v) → IsTrue (is_reached new.arrivals v)

-- The arrivals are a tree in the part. Of these nodes it has exactly those to which a walk in the part leads.
pub record IsMendedTree (g : Digraph) (P : List Bool) (u : ℕ) (targets : List ℕ) (xs : List Arrival) : Type 0 where
  pub tree : IsTree g P u xs
  pub exact : (v : ℕ) → IsTrue (has targets v) → IsTrue (is_reached xs v) ↔ ((ks : List ℕ) × IsTrue (is_walk g P u v ks))
