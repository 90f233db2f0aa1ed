use Rattle.std.proofs.Common.{◌≡◌, ◌+◌, ◌++◌, take, map, flat_map}
use Rattle.mono_text.specs.Text.{spaced}
use Rattle.mono_answer.specs.Printed.{step_line}
use Rattle.mono_answer.specs.Versions.{turned_steps}
use Rattle.mono_answer.proofs.turned.push_turned_steps.Given as goal

abbrev pub invariant-loop-place : goal.invariant-loop-place
invariant-loop-place l = l.out.items ≡ l.initial.out.items ++ flat_map spaced (map step_line (turned_steps (l.clauses + 1) (take l.place l.steps)))
