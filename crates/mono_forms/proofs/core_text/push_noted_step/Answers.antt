use Rattle.std.proofs.Common.{◌++◌, ◌∙◌, ℕ, List, ap}
use Rattle.mono_text.specs.Text.{spaced}
use Rattle.mono_answer.specs.Printed.{step_line}
use Rattle.mono_forms.proofs.CoreLines.{noted_step}
use Rattle.mono_forms.proofs.core_text.push_noted_step.Goals as goal

pub returns : goal.returns
returns c = c.in_ok-push_step.ensures.ok ∙ (ap (λ (t : List ℕ). t ++ spaced (step_line c.args.step.now)) c.in_ok-extend_from_slice.ensures.items ∙ noted_step c.args.out.now.items c.args.step.now)
