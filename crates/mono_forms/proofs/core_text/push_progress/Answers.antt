use Rattle.std.proofs.Common.{◌≡◌, ◌++◌, ◌∙◌, ℕ, List, map, flat_map, ap}
use Rattle.mono_text.specs.Text.{spaced}
use Rattle.mono_answer.specs.declared.kind.Kind.TheVariants as kind
use Rattle.mono_answer.specs.Printed.{status_line, step_line}
use Rattle.mono_forms.specs.CoreTexts.{note}
use Rattle.mono_forms.proofs.CoreLines.{noted_status, progress_lines}
use Rattle.mono_forms.proofs.core_text.push_progress.Goals as goal

pub returns : goal.returns
returns c =
    let out = c.args.out.now.items in
    let steps = c.args.steps.now in
    let line : c.push_status.new.out.items ≡ out ++ note (status_line kind.Progress) =
    c.in_ok-push_status.ensures.ok ∙ (ap (λ (t : List ℕ). t ++ spaced (status_line kind.Progress)) c.in_ok-extend_from_slice.ensures.items ∙ noted_status out) in
    c.in_ok-push_steps.ensures ∙ (ap (λ (t : List ℕ). t ++ flat_map note (map step_line steps)) line ∙ progress_lines out steps)
