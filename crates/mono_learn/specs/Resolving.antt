-- The state of a chain that goes back along a trail, and of one that drops what the rest implies.
use Rattle.std.specs.Prelude.{◌≡◌, ℕ, ◌+◌, ◌<◌, ◌≤◌, Bool, true, ℤ, List, [], length, IsTrue, Some, Contains}
use Rattle.mono_trail.specs.declared.reason.Reason.TheVariants.{Decided}
use Rattle.mono_trail.specs.Places.{reason_at}
use Rattle.mono_trail.specs.TrailView.{TrailView}
use Rattle.mono_trail.specs.Seen.{is_marked, IsUnseen}
use Rattle.mono_steps.specs.Chains.{chain_end}
use Rattle.mono_steps.specs.ChainSteps.{clauses_named, names_clauses}
use Rattle.mono_learn.specs.declared.resolvent.Resolvent.{Resolvent}
use Rattle.mono_learn.specs.Resolvents.{IsMarked}
use Rattle.mono_learn.specs.Joins.{StandsFor}

-- nothing is marked
pub record IsFresh (n : ℕ) (m : Resolvent) : Type 0 where
  pub unseen : IsUnseen m.seen.items
  pub slots : n ≤ length m.seen.items
  pub kept : m.kept.items ≡ []
  pub count : m.count ≡ 0

-- a chain that came to a clause, all of whose literals are false by marked places below top
pub record HasCome (cs : List (List ℤ)) (t : List ℤ) (start top : ℕ) (m : Resolvent) (used : List ℕ) : Type 0 where
  pub end : List ℤ
  pub is_end : chain_end (clauses_named cs used) ≡ Some end
  pub named : IsTrue (names_clauses cs used)
  pub resolvent : StandsFor t start top m end

-- no literal after the place was decided
pub record AllImplied (t : TrailView) (start : ℕ) : Type 0 where
  pub at : (k : ℕ) → start < k → k < length t.lits → reason_at t.marks k ≡ Decided → ⊥

-- the chain came to a clause with one literal of the present level, that at the place
pub record IsAtLast (cs : List (List ℤ)) (t : List ℤ) (start place : ℕ) (m : Resolvent) (used : List ℕ) : Type 0 where
  pub come : HasCome cs t start (place + 1) m used
  pub marked : is_marked m.seen.items place ≡ true
  pub high : start ≤ place
  pub within : place < length t
  pub one : m.count ≡ 1

-- the chain came to a clause whose one literal of the present level is that at the place; `kept` has the marked places below
pub record HasMinimized (cs : List (List ℤ)) (t : List ℤ) (start place : ℕ) (seen : List Bool) (kept : List ℕ) (used : List ℕ) : Type 0 where
  pub end : List ℤ
  pub is_end : chain_end (clauses_named cs used) ≡ Some end
  pub named : IsTrue (names_clauses cs used)
  pub marks : IsMarked t (place + 1) seen end
  pub high : start ≤ place
  pub within : place < length t
  pub marked : is_marked seen place ≡ true
  pub one : (k : ℕ) → start ≤ k → is_marked seen k ≡ true → k ≡ place
  pub kept_only : (k : ℕ) → Contains kept k → k < start
  pub kept_all : (k : ℕ) → k < start → is_marked seen k ≡ true → Contains kept k
