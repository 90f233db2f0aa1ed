-- Marks on the places of a trail, and the clause that they stand for.
use Rattle.std.specs.Prelude.{◌≡◌, ℕ, zero, suc, ◌+◌, ◌<◌, ◌≤◌, Bool, true, if◌then◌else◌, ℤ, neg_ℤ, List, [], ◌∷◌, length, IsTrue, Contains}
use Rattle.mono_base.specs.Literal.{has_lit, lit_at}
use Rattle.mono_trail.specs.Seen.{is_marked}

-- how many places are marked, from one on
abbrev pub marked_from : ℕ → List Bool → ℕ
marked_from s [] = 0
marked_from zero (b ∷ bs) = (if b then 1 else 0) + marked_from zero bs
marked_from (suc s) (b ∷ bs) = marked_from s bs

-- the literal's negation stands at a place below n
pub record FalseBy (t : List ℤ) (n : ℕ) (l : ℤ) : Type 0 where
  pub place : ℕ
  pub below : place < n
  pub within : place < length t
  pub there : lit_at t place ≡ neg_ℤ l

-- the literal's negation stands at that place
pub record IsFalseAt (t : List ℤ) (k : ℕ) (l : ℤ) : Type 0 where
  pub within : k < length t
  pub there : lit_at t k ≡ neg_ℤ l

-- each literal of the list is false by one below n
pub record AllFalse (t : List ℤ) (n : ℕ) (c : List ℤ) : Type 0 where
  pub are : (l : ℤ) → IsTrue (has_lit c l) → FalseBy t n l

-- the literal's negation stands at a marked place below n
pub record MarkedBy (t : List ℤ) (seen : List Bool) (n : ℕ) (l : ℤ) : Type 0 where
  pub place : ℕ
  pub below : place < n
  pub there : lit_at t place ≡ neg_ℤ l
  pub marked : is_marked seen place ≡ true

-- the marked places are below top, and stand for the clause e
pub record IsMarked (t : List ℤ) (top : ℕ) (seen : List Bool) (e : List ℤ) : Type 0 where
  pub slots : length t ≤ length seen
  pub within : top ≤ length t
  pub below : (k : ℕ) → is_marked seen k ≡ true → k < top
  pub only : (l : ℤ) → IsTrue (has_lit e l) → MarkedBy t seen top l
  pub all : (l : ℤ) → MarkedBy t seen top l → IsTrue (has_lit e l)

-- the marks stand for the clause e, `kept` has the marked places below start, and `count` is the number of the others
pub record IsResolvent (t : List ℤ) (start top : ℕ) (seen : List Bool) (kept : List ℕ) (count : ℕ) (e : List ℤ) : Type 0 where
  pub marks : IsMarked t top seen e
  pub counted : count ≡ marked_from start seen
  pub kept_only : (k : ℕ) → Contains kept k → k < start
  pub kept_all : (k : ℕ) → k < start → is_marked seen k ≡ true → Contains kept k
