-- Trees of walks from a source to some nodes.
use Rattle.std.specs.Prelude.{◌≡◌, ℕ, suc, ◌<◌, ◌≤◌, ◌-◌, ◌⊎◌, ◌↔◌, Bool, false, List, [], ◌∷◌, ◌++◌, length, slice_index_or, IsTrue, All}
use Rattle.mono_graph.specs.Digraph.{Digraph, has}
use Rattle.mono_graph.specs.Walks.{is_walk}
use Rattle.mono_dynamic.specs.declared.arrival.Arrival.{Arrival}
use Rattle.mono_dynamic.specs.Arrivals.{arrival_at, is_reached, IsTree}
use Rattle.mono_dynamic.specs.Reached.{Reached, IsSpread}

-- an arrival behind the one at the source came by the edge at this place
abbrev pub RestsOn : List Arrival → ℕ → Type 0
RestsOn xs k = (i : ℕ) × (0 < i) × (i < length xs) × ((arrival_at xs i).place ≡ k)

-- another arrival came by way of this one
abbrev pub LeadsOn : List Arrival → ℕ → Type 0
LeadsOn xs i = (j : ℕ) × (0 < j) × (j < length xs) × ((arrival_at xs j).before ≡ i)

-- each arrival behind the one at the source is at one of these nodes, or leads on to another
pub record AreNeeded (targets : List ℕ) (xs : List Arrival) : Type 0 where
  pub each : (i : ℕ) → 0 < i → i < length xs → IsTrue (has targets (arrival_at xs i).node) ⊎ LeadsOn xs i

-- The arrivals are a tree in the part. Of these nodes it has exactly those to which a walk in the part leads, and it has
-- nothing that isn't on the way to one of them.
pub record IsSearchTree (g : Digraph) (P : List Bool) (u : ℕ) (targets : List ℕ) (xs : List Arrival) : Type 0 where
  pub tree : IsTree g P u xs
  pub exact : (v : ℕ) → IsTrue (has targets v) → IsTrue (is_reached xs v) ↔ ((ks : List ℕ) × IsTrue (is_walk g P u v ks))
  pub needed : AreNeeded targets xs

-- ---- while one is searched

-- the edges that leave the first `head` arrivals were followed
pub record IsSearching (g : Digraph) (P : List Bool) (u head : ℕ) (r : Reached) : Type 0 where
  pub nodes : r.nodes ≡ g.nodes
  pub source : r.source ≡ u
  pub stamps : All (λ a. a.stamp ≤ 0) r.arrivals
  pub held : head ≤ length r.arrivals
  pub tree : IsTree g P u r.arrivals
  pub spread : IsSpread g P r.arrivals head []

-- from the last of these arrivals back, each by way of the one that comes next
pub record IsWay (xs : List Arrival) (last : ℕ) (way : List ℕ) : Type 0 where
  pub some : 0 < length way
  pub first : slice_index_or way 0 0 ≡ last
  pub known : (i : ℕ) → i < length way → slice_index_or way i 0 < length xs
  pub led : (i : ℕ) → suc i < length way
      → (slice_index_or way (suc i) 0 < slice_index_or way i 0) × ((arrival_at xs (slice_index_or way i 0)).before ≡ slice_index_or way (suc i) 0)

-- the tree has the node at which the way begins, and no other of its nodes
pub record IsJoined (xs tree : List Arrival) (way : List ℕ) : Type 0 where
  pub here : IsTrue (is_reached tree (arrival_at xs (slice_index_or way (length way - 1) 0)).node)
  pub new : (i : ℕ) → suc i < length way → is_reached tree (arrival_at xs (slice_index_or way i 0)).node ≡ false

-- the node and the edge of an arrival, reached by way of the arrival `before` of a tree
abbrev pub reached_by : Arrival → ℕ → Arrival
reached_by a before = record { node = a.node; place = a.place; before = before; stamp = 0 }

-- the node of the arrival at p was added to the tree, by way of the arrival before
pub record IsAttached (xs : List Arrival) (p : ℕ) (old new : Reached) : Type 0 where
  pub at : ℕ
  pub held : at < length old.arrivals
  pub from : (arrival_at old.arrivals at).node ≡ (arrival_at xs (arrival_at xs p).before).node
  pub alone : (j : ℕ) → j < length old.arrivals → (arrival_at old.arrivals j).node ≡ (arrival_at xs (arrival_at xs p).before).node → at ≡ j
  pub only : (j : ℕ) → j < length xs → (arrival_at xs j).node ≡ (arrival_at xs p).node → p ≡ j
  pub is : new ≡ record old { arrivals = old.arrivals ++ reached_by (arrival_at xs p) at ∷ [] }

-- The tree has the way to v if v is among the arrivals, and with it what it had. It rests on their edges.
pub record HasWay (xs : List Arrival) (v : ℕ) (old new : Reached) : Type 0 where
  pub nodes : new.nodes ≡ old.nodes
  pub source : new.source ≡ old.source
  pub stamps : All (λ a. a.stamp ≤ 0) new.arrivals
  pub tree : (g : Digraph) (P : List Bool) (u : ℕ) → IsTree g P u xs → IsTree g P u old.arrivals → IsTree g P u new.arrivals
  pub more : (w : ℕ) → IsTrue (is_reached old.arrivals w) → IsTrue (is_reached new.arrivals w)
  pub there : IsTrue (is_reached xs v) → IsTrue (is_reached new.arrivals v)
  pub needed : (targets : List ℕ) → IsTrue (has targets v) → AreNeeded targets old.arrivals → AreNeeded targets new.arrivals
