-- Updates of some items of a list, one place after the other.
use Rattle.std.specs.Prelude.{ℕ, zero, suc, ◌<◌, List, [], ◌∷◌, length, slice_index_or}

-- the item at a place changes
abbrev pub update_at : {A : Type 0} → ℕ → (A → A) → List A → List A
update_at p g [] = []
update_at zero g (x ∷ xs) = g x ∷ xs
update_at (suc p) g (x ∷ xs) = x ∷ update_at p g xs

abbrev pub update_all : {A : Type 0} → (A → A) → List ℕ → List A → List A
update_all g [] xs = xs
update_all g (p ∷ ps) xs = update_all g ps (update_at p g xs)

-- the item at the place is there, and has the property
pub record HasAt {A : Type 0} (P : A → Type 0) (p : ℕ) (xs : List A) : Type 0 where
  pub within : p < length xs
  pub holds : (d : A) → P (slice_index_or xs p d)

-- each item, when its turn comes, is there and has the property
abbrev pub CanUpdate : {A : Type 0} → (A → Type 0) → (A → A) → List ℕ → List A → Type 0
CanUpdate P g [] xs = Unit {0}
CanUpdate P g (p ∷ ps) xs = HasAt P p xs × CanUpdate P g ps (update_at p g xs)
