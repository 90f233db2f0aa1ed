-- A checker of answers for the worked rows, over one variable and no clauses.
use Rattle.std.specs.Prelude.{ℕ, true, []}
use Rattle.mono_check.specs.Checking.{Checking}
use Rattle.mono_check.specs.SoFar.{SoFar}
use Rattle.mono_check.specs.Worked.{alone}

-- behind what the lines so far have said, so many lines, and so many bytes
abbrev pub checker_behind : SoFar → ℕ → ℕ → Checking
checker_behind said lines count = record {
  problem = alone 1;
  judging = record { so_far = said; lines = lines; unfinished = [] };
  fed = count;
  is_live = true;
}
