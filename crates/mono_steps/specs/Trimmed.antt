-- What is left of a refutation without the steps that its last one doesn't rest on.
use Rattle.std.specs.Prelude.{◌≡◌, ℕ, ◌+◌, ◌-◌, ◌<◌, ◌^◌, Bool, false, nat_le, if◌then◌else◌, List, length, Some, slice_get, slice_index_or, IsTrue}
use Rattle.mono_problem.specs.Instance.{Instance}
use Rattle.mono_steps.specs.declared.step.Step.{Step}
use Rattle.mono_steps.specs.Renumbering.{rank, names_step, with_numbers, steps_with_numbers}
use Rattle.mono_steps.specs.Steps.{is_refutation}

-- the new number of a clause, where there are c clauses before the steps
abbrev pub renumbered : ℕ → List Bool → ℕ → ℕ
renumbered c needed n = if nat_le n c then n else c + 1 + rank needed (n - c - 1)

abbrev pub renumber_step : ℕ → List Bool → Step → Step
renumber_step c needed = with_numbers (renumbered c needed)

-- the needed steps, renumbered
abbrev pub trimmed_steps : ℕ → List Bool → List Step → List Step
trimmed_steps c needed steps = steps_with_numbers (renumbered c needed) needed steps

-- a later step names the one at place k
pub record IsNamedLater (c : ℕ) (steps : List Step) (k : ℕ) : Type 0 where
  pub later : ℕ
  pub after : k < later
  pub step : Step
  pub is : slice_get steps later ≡ Some step
  pub names : IsTrue (names_step c step k)

-- a refutation of nothing but what its last step rests on, with no more steps than a list in memory has
pub record IsTrimRefutation (p : Instance) (steps : List Step) : Type 0 where
  pub refutes : IsTrue (is_refutation p steps)
  pub named : (k : ℕ) → k + 1 < length steps → IsNamedLater (length p.clauses) steps k
  pub short : length steps < 2 ^ 63

-- the new steps are some of the old ones, in order and renumbered: the last one, and with each of them those that it names.
-- They are a refutation of nothing else
pub record IsTrimmed (p : Instance) (old new : List Step) : Type 0 where
  pub needed : List Bool
  pub as_many : length needed ≡ length old
  pub last : IsTrue (slice_index_or needed (length old - 1) false)
  pub closed : (j k : ℕ) (s : Step) → IsTrue (slice_index_or needed j false) → slice_get old j ≡ Some s → IsTrue (names_step (length p.clauses) s k)
      → IsTrue (slice_index_or needed k false)
  pub is : new ≡ trimmed_steps (length p.clauses) needed old
  pub trim : IsTrimRefutation p new
