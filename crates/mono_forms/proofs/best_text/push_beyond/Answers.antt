use Rattle.std.proofs.Common.{◌++◌, ◌∷◌, ◌∙◌, [], ℕ, List, codes, ap, append_assoc}
use Rattle.mono_answer.specs.declared.answer.Answer.TheVariants as answer
use Rattle.mono_answer.specs.Printed.{answer_text}
use Rattle.mono_forms.specs.CoreTexts.{note}
use Rattle.mono_forms.proofs.best_text.push_beyond.Goals as goal

pub returns : goal.returns
returns c =
    let found = answer_text (answer.Model c.args.model.now) in
    c.in_ok-push_model.ensures.ok ∙ (ap (λ (t : List ℕ). t ++ found) c.in_ok-extend_from_slice.ensures.items ∙ append_assoc c.args.out.now.items (note (codes "beyond" ∷ [])) found)
