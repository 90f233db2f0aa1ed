-- What a propagation does.
use Rattle.std.specs.Prelude.{◌≡◌, ℕ, ◌<◌, ℤ, List, length, IsTrue}
use Rattle.mono_base.specs.Literal.{has_lit}
use Rattle.mono_base.specs.Partial.{is_open_in, is_false_clause, others_false, unit_quiet}
use Rattle.mono_trail.specs.Moves.{joined, gave}
use Rattle.mono_trail.specs.TrailView.{TrailView}
use Rattle.mono_trail.specs.declared.reason.Reason.TheVariants.{Clause}
use Rattle.mono_clauses.specs.Store.{Held, clause_at, lists_of, StoreView, Follows, FollowsBelow}
use Rattle.mono_clauses.specs.declared.found.Found.{Found}
use Rattle.mono_clauses.specs.declared.found.Found.TheVariants as found

-- the clause of that number is unit, and x is its open literal
pub record IsUnitOf (cs : List Held) (t : List ℤ) (n : ℕ) (x : ℤ) : Type 0 where
  pub place : ℕ
  pub within : place < length cs
  pub number : (clause_at cs place).number ≡ n
  pub has : IsTrue (has_lit (clause_at cs place).lits x)
  pub is_open : IsTrue (is_open_in t x)
  pub others : IsTrue (others_false t (clause_at cs place).lits x)

-- the clause of that number is false
pub record IsFalseOf (cs : List Held) (t : List ℤ) (n : ℕ) : Type 0 where
  pub place : ℕ
  pub within : place < length cs
  pub number : (clause_at cs place).number ≡ n
  pub is_false : IsTrue (is_false_clause t (clause_at cs place).lits)

-- from the trail t to a trail by the clauses: each literal that joins is the one open literal of a clause, which is its reason
pub data Grows (cs : List Held) (t : TrailView) : TrailView → Type 0 where
  same : (u : TrailView) → u ≡ t → Grows cs t u
  implies : (s u : TrailView) (n : ℕ) (x : ℤ) → Grows cs t s → IsUnitOf cs s.lits n x → u ≡ joined s x (Clause n) → Grows cs t u
  gives : (s u : TrailView) → Grows cs t s → s.given < length s.lits → u ≡ gave s → Grows cs t u

pub record QuietFound (r : StoreView) (u : TrailView) : Type 0 where
  pub quiet : IsTrue (unit_quiet (lists_of r.clauses) u.lits)
  pub all_given : u.given ≡ length u.lits
  pub follows : Follows r u

pub record FalseFound (r : StoreView) (u : TrailView) (n : ℕ) : Type 0 where
  pub is_false : IsFalseOf r.clauses u.lits n
  pub follows : FollowsBelow r u

abbrev pub FoundIs : StoreView → TrailView → Found → Type 0
FoundIs r u found.Quiet = QuietFound r u
FoundIs r u (found.False n) = FalseFound r u n
