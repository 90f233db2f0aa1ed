-- Nodes that are reached from a source in a part that grows.
use Rattle.std.specs.Prelude.{◌≡◌, ℕ, ◌<◌, ◌≤◌, ◌||◌, ◌↔◌, not, Bool, false, List, length, map, filter, slice_index_or, nat_le, IsTrue, All, Option, None, Some}
use Rattle.mono_graph.specs.Digraph.{Digraph, edge_at, present, has}
use Rattle.mono_graph.specs.Walks.{is_walk}
use Rattle.mono_dynamic.specs.declared.arrival.Arrival.{Arrival}

abbrev pub no_arrival : Arrival
no_arrival = record { node = 0; place = 0; before = 0; stamp = 0 }

abbrev pub arrival_at : List Arrival → ℕ → Arrival
arrival_at xs i = slice_index_or xs i no_arrival

-- the arrival at the source
abbrev pub at_source : ℕ → Arrival
at_source u = record { node = u; place = 0; before = 0; stamp = 0 }

-- the nodes that were reached, in order
abbrev pub reached : List Arrival → List ℕ
reached xs = map (λ a. a.node) xs

abbrev pub is_reached : List Arrival → ℕ → Bool
is_reached xs v = has (reached xs) v

-- the arrivals of the first n steps
abbrev pub within : ℕ → List Arrival → List Arrival
within n xs = filter (λ a. nat_le a.stamp n) xs

-- those of later steps
abbrev pub after : ℕ → List Arrival → List Arrival
after n xs = filter (λ a. not (nat_le a.stamp n)) xs

-- it was reached after n steps or fewer, if ever
abbrev pub is_by : Option ℕ → ℕ → Bool
is_by None n = false
is_by (Some stamp) n = nat_le stamp n

-- a present edge leads from an earlier arrival's node to this one's
pub record IsLed (g : Digraph) (P : List Bool) (xs : List Arrival) (a : Arrival) (i : ℕ) : Type 0 where
  pub before : a.before < i
  pub known : a.place < length g.edges
  pub present : IsTrue (present P a.place)
  pub from : (edge_at g a.place).from ≡ (arrival_at xs a.before).node
  pub to : (edge_at g a.place).to ≡ a.node

-- the arrivals begin at the source, and an edge leads to each other
pub record IsTree (g : Digraph) (P : List Bool) (u : ℕ) (xs : List Arrival) : Type 0 where
  pub some : 0 < length xs
  pub source : (arrival_at xs 0).node ≡ u
  pub led : (i : ℕ) → 0 < i → i < length xs → IsLed g P xs (arrival_at xs i) i

-- the nodes that were reached are exactly those to which a walk in the part leads
pub record AreReached (g : Digraph) (P : List Bool) (u : ℕ) (xs : List Arrival) : Type 0 where
  pub tree : IsTree g P u xs
  pub exact : (v : ℕ) → IsTrue (is_reached xs v) ↔ ((ks : List ℕ) × IsTrue (is_walk g P u v ks))

-- so it is after each number of steps up to n, when the part was that of this number, and no arrival is later
pub record AreReachedAlong (g : Digraph) (parts : ℕ → List Bool) (n u : ℕ) (xs : List Arrival) : Type 0 where
  pub each : (m : ℕ) → m ≤ n → AreReached g (parts m) u (within m xs)
  pub latest : All (λ a. a.stamp ≤ n) xs

-- the part Q has the edges of P and those at these places
pub record IsGrown (P Q : List Bool) (ks : List ℕ) : Type 0 where
  pub each : (k : ℕ) → present Q k ≡ (present P k || has ks k)

-- the part stays as it is after n steps, until these edges come with the last of them
pub record GrowsAfter (parts : ℕ → List Bool) (n last : ℕ) (Q : List Bool) (ks : List ℕ) : Type 0 where
  pub later : n < last
  pub still : (m : ℕ) → n ≤ m → m < last → parts m ≡ parts n
  pub is : parts last ≡ Q
  pub grown : IsGrown (parts n) Q ks
