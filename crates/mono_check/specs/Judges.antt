-- What the checker keeps between two pieces.
use Rattle.std.specs.Prelude.{◌≡◌, ◌≤◌, ℕ, ◌+◌, ◌^◌, Bool, true, false, List, All, IsTrue, length}
use Rattle.mono_text.specs.Text.{is_line_feed}
use Rattle.mono_problem.specs.Instance.{Instance}
use Rattle.mono_check.specs.declared.said.Said.{Said}
use Rattle.mono_check.specs.declared.said.Said.TheVariants as said
use Rattle.mono_check.specs.declared.judge.Judge.{Judge}
use Rattle.mono_check.specs.SoFar.{SoFar, Nothing, OfVersion, OfModel, OfSteps, AtFault}
use Rattle.mono_check.specs.Checking.{Judging}
use Rattle.mono_check.specs.Seen.{model_kept, steps_kept, AreValuesKept, AreStepsKept}

-- ---- what the lines so far have said

abbrev pub so_far : Said → SoFar
so_far said.Nothing = Nothing
so_far (said.OfModel status v) = OfModel (model_kept status v)
so_far (said.OfVersion line) = OfVersion line
so_far (said.OfSteps version refutes status s) = OfSteps version refutes (steps_kept status s)
so_far (said.AtFault line r) = AtFault line r

-- no line but blank ones and comments was there
abbrev pub is_nothing : Said → Bool
is_nothing said.Nothing = true
is_nothing s = false

abbrev pub IsBegun : Said → Type 0
IsBegun s = is_nothing s ≡ false

-- what is kept is what it has to be
abbrev pub IsSoundSoFar : Instance → Said → Type 0
IsSoundSoFar p (said.OfModel status v) = AreValuesKept p v
IsSoundSoFar p (said.OfSteps version refutes status s) = AreStepsKept p s
IsSoundSoFar p s = Unit {0}

-- ---- the judge

abbrev pub judging : Judge → Judging
judging j = record { so_far = so_far j.said; lines = j.lines; unfinished = j.unfinished.items }

-- no line feed is among the bytes
abbrev pub IsOneLine : List ℕ → Type 0
IsOneLine bytes = All (λ b. is_line_feed b ≡ false) bytes

pub record IsSoundJudge (p : Instance) (j : Judge) : Type 0 where
  pub sound : IsSoundSoFar p j.said
  pub one_line : IsOneLine j.unfinished.items

-- no more than the bytes so far
abbrev pub size_of : Judge → ℕ
size_of j = j.lines + length j.unfinished.items

-- a checker that found memory keeps what it has to
pub record IsChecking (p : Instance) (j : Judge) (fed : ℕ) (live : Bool) : Type 0 where
  pub within : fed ≤ 2 ^ 62
  pub kept : IsTrue live → IsSoundJudge p j
  pub few : IsTrue live → size_of j ≤ fed
