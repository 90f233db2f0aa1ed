-- What a search keeps of reasons and learned clauses.
use Rattle.std.specs.Prelude.{◌≡◌, ℕ, ◌<◌, ◌≤◌, ℤ, List, take, length, Some, IsTrue}
use Rattle.mono_base.specs.Literal.{has_lit, within}
use Rattle.mono_base.specs.Partial.{others_false, is_open_in}
use Rattle.mono_problem.specs.Instance.{Instance, numbered}
use Rattle.mono_trail.specs.declared.reason.Reason.{Reason}
use Rattle.mono_trail.specs.declared.reason.Reason.TheVariants.{Decided, Clause, Late}
use Rattle.mono_trail.specs.Places.{reason_at}
use Rattle.mono_trail.specs.TrailView.{TrailView}
use Rattle.mono_learn.specs.Explain.{AtomForces}

-- the clause of that number has the literal, and its others are false in the list
pub record Implies (cs : List (List ℤ)) (t : List ℤ) (l : ℤ) (n : ℕ) : Type 0 where
  pub clause : List ℤ
  pub is : numbered cs n ≡ Some clause
  pub has : IsTrue (has_lit clause l)
  pub others : IsTrue (others_false t clause l)

-- the atom forces the literal by the first literals that it was shown, which are in the list
pub record ForcesLate (p : Instance) (shown : ℕ → List ℤ) (t : List ℤ) (l : ℤ) (atom kept : ℕ) : Type 0 where
  pub some : kept ≤ length (shown atom)
  pub forces : AtomForces p (take kept (shown atom)) atom l
  pub before : IsTrue (within (take kept (shown atom)) t)

-- the literal may join a list for that reason
abbrev pub MayJoin : Instance → List (List ℤ) → (ℕ → List ℤ) → List ℤ → ℤ → Reason → Type 0
MayJoin p cs shown t l Decided = Unit {0}
MayJoin p cs shown t l (Clause n) = Implies cs t l n
MayJoin p cs shown t l (Late atom kept) = ForcesLate p shown t l atom kept

-- the late reasons that are left read the same of the new lists
pub record StillShown (old new : ℕ → List ℤ) (t : TrailView) : Type 0 where
  pub some : (k a q : ℕ) → k < length t.lits → reason_at t.marks k ≡ Late a q → q ≤ length (new a)
  pub same : (k a q : ℕ) → k < length t.lits → reason_at t.marks k ≡ Late a q → take q (new a) ≡ take q (old a)

-- one literal of the clause is open in the list, and the others are false
pub record IsUnitIn (t : List ℤ) (c : List ℤ) (l : ℤ) : Type 0 where
  pub has : IsTrue (has_lit c l)
  pub open_now : IsTrue (is_open_in t l)
  pub others : IsTrue (others_false t c l)
