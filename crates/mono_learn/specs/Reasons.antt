-- The reasons of a trail's literals, late ones included, and conflicts. Clauses are named by their numbers, from 1.
use Rattle.std.specs.Prelude.{◌≡◌, ℕ, ◌<◌, ◌≤◌, ℤ, neg_ℤ, List, length, take, Some, IsTrue}
use Rattle.mono_base.specs.Literal.{has_lit, within, lit_at}
use Rattle.mono_base.specs.Partial.{others_false, is_false_clause}
use Rattle.mono_problem.specs.Instance.{Instance, numbered}
use Rattle.mono_trail.specs.declared.reason.Reason.{Reason}
use Rattle.mono_trail.specs.declared.reason.Reason.TheVariants.{Decided, Clause, Late}
use Rattle.mono_trail.specs.Places.{reason_at}
use Rattle.mono_trail.specs.TrailView.{TrailView, StandsAt}
use Rattle.mono_learn.specs.Explain.{AtomForces}

-- ---- reasons

-- the clause of that number was unit when it implied the literal at the place
pub record WasUnit (cs : List (List ℤ)) (t : List ℤ) (k n : ℕ) : Type 0 where
  pub clause : List ℤ
  pub is : numbered cs n ≡ Some clause
  pub has : IsTrue (has_lit clause (lit_at t k))
  pub others : IsTrue (others_false (take k t) clause (lit_at t k))

-- the atom forced the literal at the place when it had been shown so many literals, all of which stand before it
pub record WasForced (p : Instance) (shown : ℕ → List ℤ) (t : List ℤ) (k atom kept : ℕ) : Type 0 where
  pub some : kept ≤ length (shown atom)
  pub forces : AtomForces p (take kept (shown atom)) atom (lit_at t k)
  pub before : IsTrue (within (take kept (shown atom)) (take k t))

abbrev pub ReasonHolds : Instance → List (List ℤ) → (ℕ → List ℤ) → List ℤ → ℕ → Reason → Type 0
ReasonHolds p cs shown t k Decided = Unit {0}
ReasonHolds p cs shown t k (Clause n) = WasUnit cs t k n
ReasonHolds p cs shown t k (Late atom kept) = WasForced p shown t k atom kept

-- each implied literal has its reason
pub record HasReasons (p : Instance) (cs : List (List ℤ)) (shown : ℕ → List ℤ) (t : TrailView) : Type 0 where
  pub at : (k : ℕ) → k < length t.lits → ReasonHolds p cs shown t.lits k (reason_at t.marks k)

-- ---- conflicts

-- the clause of that number is false
pub record IsFalseClause (cs : List (List ℤ)) (t : List ℤ) (n : ℕ) : Type 0 where
  pub clause : List ℤ
  pub is : numbered cs n ≡ Some clause
  pub is_false : IsTrue (is_false_clause t clause)

-- the clause of that number is false, and has a literal of the present level
pub record IsConflict (cs : List (List ℤ)) (t : TrailView) (n : ℕ) : Type 0 where
  pub clause : List ℤ
  pub is : numbered cs n ≡ Some clause
  pub is_false : IsTrue (is_false_clause t.lits clause)
  pub lit : ℤ
  pub has : IsTrue (has_lit clause lit)
  pub present : StandsAt t (neg_ℤ lit) t.level
