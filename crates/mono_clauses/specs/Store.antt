-- The clause store: what it holds, and how it follows a trail.
--
-- Of a clause that is watched two literals are, each by a watcher of its own, which looks at the clause when the trail gives the literal's negation
-- (the watched literals of Chaff and MiniSat). So wherever the negation of a watched literal stands on the trail, the other one is true at no higher
-- level, or else the negation was not given yet, and stands at the present level. The first outlives a backjump, the second waits to be given.
use Rattle.std.specs.Prelude.{◌≡◌, ℕ, ◌+◌, ◌-◌, ◌*◌, ◌%◌, ◌<◌, ◌≤◌, ◌⊎◌, ℤ, neg_ℤ, List, [], ◌∷◌, ◌++◌, map, length, Option, Some, None, slice_index_or}
use Rattle.mono_base.specs.Literal.{lit_at}
use Rattle.mono_trail.specs.Places.{level_at}
use Rattle.mono_trail.specs.TrailView.{TrailView}

-- a clause that is held, with its number
pub record Held : Type 0 where
  pub number : ℕ
  pub lits : List ℤ

abbrev pub no_clause : Held
no_clause = record { number = 0; lits = [] }

abbrev pub clause_at : List Held → ℕ → Held
clause_at cs k = slice_index_or cs k no_clause

-- the clauses alone
abbrev pub lists_of : List Held → List (List ℤ)
lists_of cs = map (λ c. c.lits) cs

-- a store, as contracts see it: the clauses, and what each watcher watches. The watchers of the clause at k are 2k and 2k + 1
pub record StoreView : Type 0 where
  pub vars : ℕ
  pub clauses : List Held
  pub watched : List (Option ℤ)

abbrev pub no_clauses : ℕ → StoreView
no_clauses vars = record { vars = vars; clauses = []; watched = [] }

-- one clause more is held. Whether it is watched, or due to be looked at, isn't said
pub record AddsClause (s r : StoreView) (n : ℕ) (c : List ℤ) : Type 0 where
  pub vars : r.vars ≡ s.vars
  pub clauses : r.clauses ≡ s.clauses ++ record { number = n; lits = c } ∷ []

-- ---- following a trail

abbrev pub watch_at : List (Option ℤ) → ℕ → Option ℤ
watch_at ws w = slice_index_or ws w None

-- the other watcher of the clause
abbrev pub other : ℕ → ℕ
other w = w + 1 - 2 * (w % 2)

-- the literal is true, at no higher level
pub record IsTrueBy (t : TrailView) (b : ℤ) (level : ℕ) : Type 0 where
  pub place : ℕ
  pub within : place < length t.lits
  pub there : lit_at t.lits place ≡ b
  pub low : level_at t.marks place ≤ level

-- the literal a is watched beside b: where -a stands, b is true at no higher level, or else -a stands at the place n or later, at the present level
pub record Guards (t : TrailView) (n : ℕ) (a b : ℤ) : Type 0 where
  pub at : (p : ℕ) → p < length t.lits → lit_at t.lits p ≡ neg_ℤ a → IsTrueBy t b (level_at t.marks p) ⊎ ((n ≤ p) × (level_at t.marks p ≡ t.level))

-- the store follows the trail: each watched literal guards the other, and one that is watched alone is true at level 0
pub record Follows (s : StoreView) (t : TrailView) : Type 0 where
  pub vars : s.vars ≡ t.vars
  pub at : (w : ℕ) (a b : ℤ) → watch_at s.watched w ≡ Some a → watch_at s.watched (other w) ≡ Some b → Guards t t.given a b
  pub alone : (w : ℕ) (a : ℤ) → watch_at s.watched w ≡ Some a → watch_at s.watched (other w) ≡ Some a → IsTrueBy t a 0

-- it does so below the trail's level: what is left after a false clause was found
pub record FollowsBelow (s : StoreView) (t : TrailView) : Type 0 where
  pub vars : s.vars ≡ t.vars
  pub at : (w : ℕ) (a b : ℤ) → watch_at s.watched w ≡ Some a → watch_at s.watched (other w) ≡ Some b
      → (p : ℕ) → p < length t.lits → lit_at t.lits p ≡ neg_ℤ a → level_at t.marks p < t.level → IsTrueBy t b (level_at t.marks p)
  pub alone : (w : ℕ) (a : ℤ) → watch_at s.watched w ≡ Some a → watch_at s.watched (other w) ≡ Some a → IsTrueBy t a 0
