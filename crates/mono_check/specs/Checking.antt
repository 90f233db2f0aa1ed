-- An answer that is fed to the checker piece by piece.
use Rattle.std.specs.Prelude.{ℕ, ◌+◌, Bool, List, ◌++◌}
use Rattle.mono_text.specs.Text.{lines_of, numbered_from}
use Rattle.mono_problem.specs.Instance.{Instance}
use Rattle.mono_check.specs.SoFar.{SoFar, behind}
use Rattle.mono_check.specs.Verdicts.{Outcome}

-- what the lines that have ended say, how many they are, and the bytes of the next line that have come
pub record Judging : Type 0 where
  pub so_far : SoFar
  pub lines : ℕ
  pub unfinished : List ℕ

-- what the answer comes to where these bytes follow, and no others
abbrev pub later_by : Instance → Judging → List ℕ → Outcome
later_by p j rest = behind p j.so_far (numbered_from (j.lines + 1) (lines_of (j.unfinished ++ rest)))

-- what contracts see of a checker: the problem, what the bytes so far come to, how many they are, and whether memory was found for all of them
pub record Checking : Type 0 where
  pub problem : Instance
  pub judging : Judging
  pub fed : ℕ
  pub is_live : Bool

-- what the answer comes to where these bytes follow those that were fed, and no others
abbrev pub later : Checking → List ℕ → Outcome
later c rest = later_by c.problem c.judging rest
