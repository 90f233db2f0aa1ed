-- The step that a line says, as it is written.
use Rattle.std.specs.Prelude.{ℕ, List, Option, None, if◌then◌else◌}
use Rattle.mono_text.specs.Text.{is_skipped}
use Rattle.mono_steps.specs.declared.step.Step.{Step}
use Rattle.mono_answer.specs.Items.{item_of}
use Rattle.mono_check.specs.StepLines.{step_in}

-- none where the line is blank, a comment, or says something else
abbrev pub step_said : List (List ℕ) → Option Step
step_said ts = if is_skipped ts then None else step_in (item_of ts)
