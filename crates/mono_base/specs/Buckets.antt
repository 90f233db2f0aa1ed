-- Lists by key, which stand as stretches in one table of items.
use Rattle.std.specs.Prelude.{◌≡◌, ◌≢◌, ◌⊎◌, ℕ, ◌+◌, ◌<◌, ◌≤◌, List, length, map, take, drop, slice_index_or}
use Rattle.mono_base.specs.declared.buckets.Stretch.{Stretch}

-- the items of a stretch
abbrev pub listed_in : {T : Type 0} → List T → Stretch → List T
listed_in items s = take s.len (drop s.start items)

-- the lists of the stretches
abbrev pub lists_in : {T : Type 0} → List T → List Stretch → List (List T)
lists_in items stretches = map (listed_in items) stretches

-- what stands where no key is
abbrev pub no_stretch : Stretch
no_stretch = record { start = 0; len = 0; room = 0 }

abbrev pub stretch_at : List Stretch → ℕ → Stretch
stretch_at stretches k = slice_index_or stretches k no_stretch

-- there is room for one more item
abbrev pub has_room : Stretch → Type 0
has_room s = s.len < s.room

-- neither of two stretches has a place of the other
abbrev pub IsApart : Stretch → Stretch → Type 0
IsApart s t = (s.start + s.room ≤ t.start) ⊎ (t.start + t.room ≤ s.start)

-- the stretches lie among so many items, each has room for its own, and no two have a place in common
pub record AreApart (count : ℕ) (stretches : List Stretch) : Type 0 where
  pub held : (k : ℕ) → k < length stretches → (stretch_at stretches k).len ≤ (stretch_at stretches k).room
  pub within : (k : ℕ) → k < length stretches → (stretch_at stretches k).start + (stretch_at stretches k).room ≤ count
  pub apart : (j k : ℕ) → j < length stretches → k < length stretches → j ≢ k → IsApart (stretch_at stretches j) (stretch_at stretches k)

-- a stretch behind all items that there were, with the items of an earlier one and room for one more
pub record IsBehind {T : Type 0} (old new : List T) (at behind : Stretch) : Type 0 where
  pub start : behind.start ≡ length old
  pub end : behind.start + behind.room ≤ length new
  pub room : has_room behind
  pub same : listed_in new behind ≡ listed_in old at
