use Rattle.std.proofs.Common.{◌≡◌, ◌++◌, take, map, flat_map}
use Rattle.mono_text.specs.Text.{spaced}
use Rattle.mono_answer.specs.Printed.{step_line}
use Rattle.mono_answer.proofs.print.push_steps.Given as goal

abbrev pub invariant-loop-step : goal.invariant-loop-step
invariant-loop-step l = l.out.items ≡ l.initial.out.items ++ flat_map spaced (map step_line (take l.step-index l.steps))
