use Rattle.std.proofs.Common.{◌≡◌, ◌+◌, ◌++◌, length}
use Rattle.mono_answer.specs.Items.{items_of}
use Rattle.mono_check.specs.Migrations.{steps_held}
use Rattle.mono_check.specs.StepLines.{steps_in}
use Rattle.mono_check.proofs.held.held_steps.Given as goal

-- the steps so far, and those of the lines that are left
abbrev pub invariant-lines : goal.invariant-lines
invariant-lines l = l.steps.items ++ steps_held l.version (l.clauses + length l.steps.items + 1) l.lines ≡ steps_in (items_of (length l.problem.clauses) l.text)
