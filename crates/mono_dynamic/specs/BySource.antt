-- Rows that change one after another.
use Rattle.std.specs.Prelude.{◌≡◌, ◌⊎◌, ℕ, Bool, List}
use Rattle.mono_graph.specs.Digraph.{Digraph}

-- the row is as it was, or has changed so
abbrev pub OrSame : {X : Type 0} → (X → X → Type 0) → X → X → Type 0
OrSame Is old new = (new ≡ old) ⊎ Is old new

-- a row has gone back to so many steps, and is the one that grew by the step after them, or didn't
pub record IsBack {X : Type 0} (fits : ℕ → ℕ → X → Type 0) (grown : Digraph → List Bool → List ℕ → ℕ → X → X → Type 0)
    (undone : ℕ → X → X → Type 0) (kept : ℕ) (old new : X) : Type 0 where
  pub is : undone kept old new
  pub restored : (g : Digraph) (Q : List Bool) (ks : List ℕ) (row : X) → fits g.nodes kept row → OrSame (grown g Q ks kept) row old → new ≡ row
