-- The places of each key.
use Rattle.std.specs.Prelude.{◌≡◌, ℕ, ◌-◌, ◌<◌, ◌≤◌, ◌^◌, ◌==◌, Bool, List, [], ◌∷◌, length, map, take, drop, slice_index, All, IsTrue, if◌then◌else◌}
use Rattle.std.specs.List.Sorted.{IsNonDecreasingBy}
use Rattle.mono_graph.specs.Digraph.{has}
use Rattle.mono_bounds.specs.declared.entries.Entry.{Entry}
use Rattle.mono_bounds.specs.declared.span.Span.{Span}
use Rattle.mono_bounds.specs.Entries.{entry_at}

-- the key of each place, and the places in the order of their keys
pub record IndexView : Type 0 where
  pub keys : List ℕ
  pub places : List ℕ

-- The entries are the places with their keys, each at least once, in the order of the keys.
pub record IsIndex (keys : List ℕ) (es : List Entry) : Type 0 where
  pub known : All (λ e. (e.place < length keys) × (e.key ≡ slice_index keys e.place)) es
  pub each : (k : ℕ) → k < length keys → (i : ℕ) × (i < length es) × ((entry_at es i).place ≡ k)
  pub sorted : IsNonDecreasingBy (λ e. e.key) es
  pub few : length es < 2 ^ 32

-- and beside them their places, in their order
pub record IsIndexed (keys : List ℕ) (es : List Entry) (ks : List ℕ) : Type 0 where
  pub index : IsIndex keys es
  pub places : ks ≡ map (λ e. e.place) es

-- the place has the key
pub record IsPlaceOf (keys : List ℕ) (key place : ℕ) : Type 0 where
  pub held : place < length keys
  pub is : slice_index keys place ≡ key

-- these are the places that have the key
pub record ArePlacesOf (keys : List ℕ) (key : ℕ) (ks : List ℕ) : Type 0 where
  pub held : All (λ k. k < length keys) ks
  pub each : (k : ℕ) → IsTrue (has ks k) → IsPlaceOf keys key k
  pub all : (k : ℕ) → k < length keys → slice_index keys k ≡ key → IsTrue (has ks k)

-- the places that stand there
abbrev pub within : List ℕ → Span → List ℕ
within ks s = take (s.end - s.start) (drop s.start ks)

-- the places that have the key stand there
pub record IsSpanOf (keys ks : List ℕ) (key : ℕ) (s : Span) : Type 0 where
  pub fits : s.end ≤ length ks
  pub places : ArePlacesOf keys key (within ks s)

-- the part with all places of the key in it, or none
abbrev pub switched : List ℕ → ℕ → Bool → List Bool → List Bool
switched [] key on P = []
switched (x ∷ xs) key on [] = []
switched (x ∷ xs) key on (p ∷ ps) = (if x == key then on else p) ∷ switched xs key on ps
