-- Steps over an extended problem, carried to the board.
use Rattle.std.specs.Prelude.{ℕ, ◌+◌, ◌-◌, nat_le, if◌then◌else◌, List, length, map, slice_index_or}
use Rattle.mono_problem.specs.Instance.{Instance}
use Rattle.mono_steps.specs.declared.step.Step.{Step}
use Rattle.mono_steps.specs.Renumbering.{with_numbers}

-- the new number of a clause of the extended problem or of a step, where the problem has c clauses and the board b steps: a
-- number of the problem stays, the place of a taken clause becomes the taken number, and a step becomes its number on the board
abbrev pub moved_number : ℕ → List ℕ → ℕ → ℕ → ℕ
moved_number c taken b n =
    if nat_le n c then n
    else if nat_le n (c + length taken) then slice_index_or taken (n - c - 1) 0
    else n - length taken + b

abbrev pub moved_step : ℕ → List ℕ → ℕ → Step → Step
moved_step c taken b s = with_numbers (moved_number c taken b) s

-- the steps, as they stand behind the board
abbrev pub moved : Instance → List Step → List ℕ → List Step → List Step
moved p steps taken board = map (moved_step (length p.clauses) taken (length board)) steps
