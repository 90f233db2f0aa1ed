use Rattle.std.proofs.Common.{◌++◌, ◌∷◌, ◌∙◌, [], ℕ, ℤ, List, w64, codes, ap, append_assoc}
use Rattle.std.specs.Fmt.{signed_decimal}
use Rattle.std.proofs.lemmas.Int.{to_z-of_z}
use Rattle.mono_answer.specs.declared.answer.Answer.TheVariants as answer
use Rattle.mono_answer.specs.Printed.{answer_text}
use Rattle.mono_forms.specs.CoreTexts.{note}
use Rattle.mono_forms.proofs.best_text.push_open.Goals as goal

pub returns : goal.returns
returns c =
    let progress = answer_text (answer.Progress c.args.steps.now) in
    let out = c.args.out.now.items in
    let line = c.in_ok-push_bound.ensures ∙ ap (λ (z : ℤ). out ++ note (codes "open" ∷ signed_decimal z ∷ [])) (to_z-of_z w64 c.args.bound c.ranges.bound) in
    c.in_ok-push_claim.ensures.ok
    ∙ (ap (λ (t : List ℕ). t ++ progress) line ∙ append_assoc out (note (codes "open" ∷ signed_decimal c.args.bound ∷ [])) progress)
