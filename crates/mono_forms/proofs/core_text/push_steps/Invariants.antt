use Rattle.std.proofs.Common.{◌≡◌, ◌++◌, take, map, flat_map}
use Rattle.mono_answer.specs.Printed.{step_line}
use Rattle.mono_forms.specs.CoreTexts.{note}
use Rattle.mono_forms.proofs.core_text.push_steps.Given as goal

abbrev pub invariant-loop-step : goal.invariant-loop-step
invariant-loop-step l = l.out.items ≡ l.initial.out.items ++ flat_map note (map step_line (take l.step-index l.steps))
