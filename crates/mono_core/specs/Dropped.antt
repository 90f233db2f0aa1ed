-- Which assumptions a refutation names.
use Rattle.std.specs.Prelude.{◌≡◌, ℕ, ◌<◌, Bool, true, ◌&&◌, nat_le, ℤ, List, ◌++◌, length, replicate}
use Rattle.std.specs.List.{list_all, list_any}
use Rattle.mono_base.specs.Literal.{var_of}
use Rattle.mono_steps.specs.declared.step.Step.{Step}
use Rattle.mono_steps.specs.Needed.{is_set}
use Rattle.mono_steps.specs.Renumbering.{rank, names_step, steps_with_numbers}
use Rattle.mono_steps.specs.Trimmed.{renumbered}
use Rattle.mono_steps.specs.Steps.{clause_of}

-- each literal is over the first v variables
abbrev pub is_over : ℕ → List ℤ → Bool
is_over v c = list_all (λ l. nat_le 1 (var_of l) && nat_le (var_of l) v) c

abbrev pub are_over : ℕ → List Step → Bool
are_over v steps = list_all (λ s. is_over v (clause_of s)) steps

-- the flags of so many clauses behind the first c: whether one of the steps names it
pub record AreNamed (c units : ℕ) (steps : List Step) (named : List Bool) : Type 0 where
  pub as_many : length named ≡ units
  pub each : (k : ℕ) → k < units → is_set named k ≡ list_any (λ s. names_step c s k) steps

-- the steps without those clauses behind the first c whose flag isn't set: all steps stay, with other numbers
abbrev pub steps_without : ℕ → List Bool → List Step → List Step
steps_without c named steps = steps_with_numbers (renumbered c (named ++ replicate (length steps) true)) (replicate (length steps) true) steps

-- of the flags that are set those that the list of flags behind them keeps
pub record AreNarrowed (kept named new : List Bool) : Type 0 where
  pub as_many : length new ≡ length kept
  pub each : (k : ℕ) → k < length kept → is_set new k ≡ (is_set kept k && is_set named (rank kept k))
