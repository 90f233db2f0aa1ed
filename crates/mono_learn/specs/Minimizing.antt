-- Marks that are taken away one after the other.
use Rattle.std.specs.Prelude.{◌≡◌, ◌≢◌, ℕ, ◌<◌, ◌≤◌, Bool, true, false, ℤ, neg_ℤ, List, length, Some, IsTrue, slice_index_or}
use Rattle.mono_base.specs.Literal.{has_lit, without, lit_at}
use Rattle.mono_problem.specs.Instance.{numbered}
use Rattle.mono_trail.specs.declared.reason.Reason.TheVariants.{Clause}
use Rattle.mono_trail.specs.Places.{reason_at}
use Rattle.mono_trail.specs.TrailView.{TrailView}
use Rattle.mono_trail.specs.Seen.{is_marked}
use Rattle.mono_learn.specs.Reasons.{WasUnit}
use Rattle.mono_learn.specs.Resolvents.{FalseBy, MarkedBy}

-- each reason that is a clause was unit when it implied its literal
pub record AreReasons (cs : List (List ℤ)) (t : TrailView) : Type 0 where
  pub at : (k n : ℕ) → k < length t.lits → reason_at t.marks k ≡ Clause n → WasUnit cs t.lits k n

-- the literals are in the clause that the marks stand for
pub record IsCovered (t : List ℤ) (seen : List Bool) (c : List ℤ) : Type 0 where
  pub by : (l : ℤ) → IsTrue (has_lit c l) → MarkedBy t seen (length t) l

-- the false literal is not in the clause that the marks stand for
pub record IsUnmarkedBy (t : List ℤ) (seen : List Bool) (l : ℤ) : Type 0 where
  pub by : FalseBy t (length t) l
  pub off : is_marked seen by.place ≡ false

-- one of the literals is not
pub record IsUncovered (t : List ℤ) (seen : List Bool) (c : List ℤ) : Type 0 where
  pub lit : ℤ
  pub has : IsTrue (has_lit c lit)
  pub open_by : IsUnmarkedBy t seen lit

-- where the place is marked and its reason is a clause, another literal of that clause isn't in the one that the marks stand for
pub record IsKeptFor (cs : List (List ℤ)) (t : TrailView) (seen : List Bool) (k : ℕ) : Type 0 where
  pub why : (n : ℕ) (r : List ℤ) → is_marked seen k ≡ true → reason_at t.marks k ≡ Clause n → numbered cs n ≡ Some r
      → IsUncovered t.lits seen (without r (lit_at t.lits k))

-- the reason of the literal at the place is a clause, and its others are all in the clause that the marks stand for
pub record IsRedundantAt (cs : List (List ℤ)) (t : TrailView) (seen : List Bool) (k : ℕ) : Type 0 where
  pub number : ℕ
  pub reason : List ℤ
  pub why : reason_at t.marks k ≡ Clause number
  pub is : numbered cs number ≡ Some reason
  pub covered : IsCovered t.lits seen (without reason (lit_at t.lits k))

-- the place's mark is taken away exactly where its literal is redundant in the clause that the old marks stand for
pub record IsDropped (cs : List (List ℤ)) (t : TrailView) (old new : List Bool) (k : ℕ) : Type 0 where
  pub gone : is_marked old k ≡ true → is_marked new k ≡ false → IsRedundantAt cs t old k
  pub left : is_marked new k ≡ true → IsRedundantAt cs t old k → ⊥

-- of the kept places from the i-th on, the marks are taken away exactly where they are redundant in the clause that the old
-- marks stand for
pub record AreDropped (cs : List (List ℤ)) (t : TrailView) (old new : List Bool) (kept : List ℕ) (i : ℕ) : Type 0 where
  pub fewer : (k : ℕ) → is_marked new k ≡ true → is_marked old k ≡ true
  pub gone : (k : ℕ) → is_marked old k ≡ true → is_marked new k ≡ false → IsRedundantAt cs t old k
  pub left : (j : ℕ) → i ≤ j → j < length kept → is_marked new (slice_index_or kept j 0) ≡ true
      → IsRedundantAt cs t old (slice_index_or kept j 0) → ⊥
  pub same : (k : ℕ) → ((j : ℕ) → i ≤ j → j < length kept → k < slice_index_or kept j 0) → is_marked new k ≡ is_marked old k

-- the literals of the kept places that are marked
pub record AreKept (t : List ℤ) (start : ℕ) (seen : List Bool) (kept : List ℕ) (i : ℕ) (lits : List ℤ) : Type 0 where
  pub only : (l : ℤ) → IsTrue (has_lit lits l) → MarkedBy t seen start l
  pub all : (j : ℕ) → j < i → is_marked seen (slice_index_or kept j 0) ≡ true → IsTrue (has_lit lits (neg_ℤ (lit_at t (slice_index_or kept j 0))))

-- the marks are left but that of the place and those of the first kept ones
pub record AreLeft (seen now : List Bool) (kept : List ℕ) (place i : ℕ) : Type 0 where
  pub stays : (k : ℕ) → is_marked now k ≡ true → is_marked seen k ≡ true
  pub gone : (k : ℕ) → is_marked now k ≡ true → k ≢ place
  pub gone_kept : (j : ℕ) → j < i → is_marked now (slice_index_or kept j 0) ≡ false
