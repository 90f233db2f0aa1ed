use Rattle.std.proofs.Common.{◌≡◌, ◌++◌, ◌∷◌, ◌∙◌, [], ℕ, List, flat_map, codes, ap, append_assoc}
use Rattle.std.specs.Fmt.{signed_decimal}
use Rattle.mono_answer.specs.declared.answer.Answer.TheVariants as answer
use Rattle.mono_answer.specs.Behind.{behind}
use Rattle.mono_answer.specs.Printed.{numbers_text, with_zero, answer_lines}
use Rattle.mono_forms.specs.CoreTexts.{note}
use Rattle.mono_forms.proofs.NoteLines.{note_of_two}
use Rattle.mono_forms.proofs.core_text.push_tried_need.Goals as goal

pub returns : goal.returns
returns c =
    let out = c.args.out.now.items in
    let lit = signed_decimal c.args.lit in
    let tokens = numbers_text (with_zero c.args.tried.now) in
    let first = note (codes "open" ∷ lit ∷ tokens) in
    let progress = flat_map note (answer_lines (answer.Progress c.args.steps.now)) in
    let line : c.push.new.self.items ≡ out ++ first =
    c.in_ok-push.ensures.items
    ∙ (ap (λ (t : List ℕ). t ++ 10 ∷ []) (c.in_ok-push_lits.ensures.ok ∙ ap (λ (t : List ℕ). t ++ behind tokens) (c.in_ok-push_literal.ensures ∙ ap (λ (t : List ℕ). t ++ lit) c.in_ok-extend_from_slice.ensures.items))
    ∙ note_of_two out (codes "open") lit tokens) in
    c.in_ok-push_progress.ensures ∙ (ap (λ (t : List ℕ). t ++ progress) line ∙ append_assoc out first progress)
