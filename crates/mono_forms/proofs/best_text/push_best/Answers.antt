use Rattle.std.proofs.Common.{◌++◌, ◌∷◌, ◌∙◌, [], ℕ, ℤ, List, w64, codes, ap}
use Rattle.std.specs.Fmt.{signed_decimal}
use Rattle.std.proofs.lemmas.Int.{to_z-of_z}
use Rattle.mono_answer.specs.declared.answer.Answer.TheVariants as answer
use Rattle.mono_answer.specs.Printed.{answer_text}
use Rattle.mono_forms.specs.CoreTexts.{note}
use Rattle.mono_forms.specs.BestTexts.{values_note}
use Rattle.mono_forms.proofs.NoteLines.{two_lines}
use Rattle.mono_forms.proofs.best_text.push_best.Goals as goal

pub returns : goal.returns
returns c =
    let out = c.args.out.now.items in
    let first = note (codes "best" ∷ signed_decimal c.args.bound ∷ []) in
    let second = values_note c.args.model.now in
    let refutation = answer_text (answer.Refutation c.args.steps.now) in
    let line = c.in_ok-push_bound.ensures ∙ ap (λ (z : ℤ). out ++ note (codes "best" ∷ signed_decimal z ∷ [])) (to_z-of_z w64 c.args.bound c.ranges.bound) in
    c.in_ok-push_claim.ensures.ok
    ∙ (ap (λ (t : List ℕ). t ++ refutation) (c.in_ok-push_values.ensures ∙ ap (λ (t : List ℕ). t ++ second) line)
    ∙ two_lines out first second refutation)
