use Rattle.std.specs.Prelude.{◌≡◌, ℕ, ◌≤◌, ℤ, List, ◌++◌, length, IsTrue}
use Rattle.mono_base.specs.Literal.{has_lit}
use Rattle.mono_learn.specs.declared.resolvent.Resolvent.{Resolvent}
use Rattle.mono_learn.specs.Resolvents.{FalseBy, IsResolvent, marked_from}

-- the marks stand for e
abbrev pub StandsFor : List ℤ → ℕ → ℕ → Resolvent → List ℤ → Type 0
StandsFor t start top m e = IsResolvent t start top m.seen.items m.kept.items m.count e

-- false literals join the clause that the marks stand for
pub record Joins (t : List ℤ) (start : ℕ) (old new : Resolvent) (c : List ℤ) : Type 0 where
  pub grows : old.count ≤ new.count
  pub counted : new.count ≡ marked_from start new.seen.items
  pub slots : length new.seen.items ≡ length old.seen.items
  pub resolvent : (top : ℕ) (e : List ℤ) → ((l : ℤ) → IsTrue (has_lit c l) → FalseBy t top l) → StandsFor t start top old e
      → StandsFor t start top new (e ++ c)
