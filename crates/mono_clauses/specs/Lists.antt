-- Lists: where a literal stands, and how often a number does.
use Rattle.std.specs.Prelude.{◌≡◌, ℕ, ◌+◌, ◌<◌, ℤ, List, [], ◌∷◌, length, slice_index_or, ◌==◌, if◌then◌else◌, Option, Some, None}
use Rattle.mono_base.specs.Literal.{lit_at}

-- the literal stands at a place of the list
pub record Stands (t : List ℤ) (l : ℤ) : Type 0 where
  pub place : ℕ
  pub within : place < length t
  pub there : lit_at t place ≡ l

-- how many times a list has a number
abbrev pub times : ℕ → List ℕ → ℕ
times w [] = 0
times w (x ∷ xs) = (if x == w then 1 else 0) + times w xs

abbrev pub first_of : List ℕ → Option ℕ
first_of [] = None
first_of (x ∷ xs) = Some x

-- one of several lists
abbrev pub list_at : List (List ℕ) → ℕ → List ℕ
list_at ls k = slice_index_or ls k []

-- the number is in none of the lists
pub record IsFree (ls : List (List ℕ)) (w : ℕ) : Type 0 where
  pub at : (k : ℕ) → times w (list_at ls k) ≡ 0
