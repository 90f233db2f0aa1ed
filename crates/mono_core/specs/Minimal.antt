-- Minimal sets of assumptions.
use Rattle.std.specs.Prelude.{ℕ, ◌<◌, ℤ, List, length, Bool}
use Rattle.std.specs.List.{remove}
use Rattle.mono_problem.specs.Instance.{Instance}
use Rattle.mono_problem.specs.Holds.{Satisfies, HasNoModel}
use Rattle.mono_problem.specs.Assuming.{assuming}
use Rattle.mono_core.specs.declared.outcome.Need.{Need}
use Rattle.mono_core.specs.declared.outcome.Need.TheVariants as need

abbrev pub IsModelNeed : Need → Type 0
IsModelNeed (need.Model values) = Unit {0}
IsModelNeed (need.Tried tried steps) = ⊥

-- there is no model under all of these, and one under all but any one of them
pub record IsMinimal (p : Instance) (lits : List ℤ) : Type 0 where
  pub none : HasNoModel (assuming p lits)
  pub others : (k : ℕ) → k < length lits → (a : ℕ → Bool) × Satisfies (assuming p (remove lits k)) a
