-- Predicates whose variables have the wrong value.
use Rattle.std.specs.Prelude.{◌≡◌, ◌↔◌, ◌⊎◌, ℕ, ◌-◌, ◌≤◌, Bool, true, false, take, length, Option, Some, None, IsTrue, All}
use Rattle.mono_problem.specs.declared.atom.Atom.{Atom}
use Rattle.mono_problem.specs.Instance.{Instance}
use Rattle.mono_problem.specs.Read.{atom_numbered}
use Rattle.mono_problem.specs.Holds.{HoldsAtom, Agrees}

-- the variable is true exactly where the predicate holds
abbrev pub IsRight : Instance → (ℕ → Bool) → Atom → Type 0
IsRight p a x = IsTrue (a x.var) ↔ HoldsAtom p a x

-- the variable is true and the predicate fails, or it is false and the predicate holds
abbrev pub IsWrong : Instance → (ℕ → Bool) → Atom → Type 0
IsWrong p a x = (IsTrue (a x.var) × ¬ HoldsAtom p a x) ⊎ ((a x.var ≡ false) × HoldsAtom p a x)

-- the predicate of the number k is wrong, and none before it
pub record IsFirstWrong (p : Instance) (a : ℕ → Bool) (k : ℕ) : Type 0 where
  pub low : 1 ≤ k
  pub high : k ≤ length p.atoms
  pub before : All (IsRight p a) (take (k - 1) p.atoms)
  pub wrong : IsWrong p a (atom_numbered p k)

-- the first that is wrong, or none where all agree
abbrev pub IsWrongAtom : Instance → (ℕ → Bool) → Option ℕ → Type 0
IsWrongAtom p a None = Agrees p a
IsWrongAtom p a (Some k) = IsFirstWrong p a k

-- whether it is right
abbrev pub IsJudged : Instance → (ℕ → Bool) → Atom → Bool → Type 0
IsJudged p a x true = IsRight p a x
IsJudged p a x false = IsWrong p a x
