-- Lists of places below a number, each at most once.
use Rattle.std.specs.Prelude.{◌≡◌, ℕ, ◌<◌, ◌≤◌, ◌-◌, ◌++◌, ◌∷◌, ◌==◌, Bool, true, false, List, [], length, replicate, slice_index_or, slice_set, All}
use Rattle.std.specs.List.{IsDistinct, range_with_len}
use Rattle.mono_base.specs.Numbers.{has}

-- by place whether it is listed, and the places that are, in the order in which they joined
pub record WorklistView : Type 0 where
  pub listed : List Bool
  pub places : List ℕ

-- none of so many places
abbrev pub none_listed : ℕ → WorklistView
none_listed count = record { listed = replicate count false; places = [] }

-- all of so many places, in their own order
abbrev pub all_listed : ℕ → WorklistView
all_listed count = record { listed = replicate count true; places = range_with_len 0 count }

-- the marks say that the place is listed
abbrev pub is_listed : List Bool → ℕ → Bool
is_listed listed p = slice_index_or listed p false

-- the marks are those of the places, none of which is there twice, and there is room for all
pub record IsWorklist (listed : List Bool) (places : List ℕ) (room : ℕ) : Type 0 where
  pub within : All (λ p. p < length listed) places
  pub distinct : IsDistinct (λ p q. p == q) places
  pub exact : (p : ℕ) → has places p ≡ is_listed listed p
  pub fits : length listed ≤ room

-- the last of some places
abbrev pub last_of : List ℕ → ℕ
last_of ps = slice_index_or ps (length ps - 1) 0

-- no place is listed
pub record IsEmpty (w : WorklistView) : Type 0 where
  pub none : w.places ≡ []
  pub off : (p : ℕ) → is_listed w.listed p ≡ false

-- the place is the last of those that are listed
pub record IsLast (w : WorklistView) (p : ℕ) : Type 0 where
  pub some : 0 < length w.places
  pub is : p ≡ last_of w.places
  pub within : p < length w.listed
  pub on : is_listed w.listed p ≡ true

-- the place is the last of those that are listed, and leaves
pub record IsTaken (old new : WorklistView) (p : ℕ) : Type 0 where
  pub places : old.places ≡ new.places ++ p ∷ []
  pub within : p < length old.listed
  pub on : is_listed old.listed p ≡ true
  pub off : new.listed ≡ slice_set old.listed p false
