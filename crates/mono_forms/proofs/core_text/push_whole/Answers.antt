use Rattle.std.proofs.Common.{◌++◌, ◌∙◌, ℕ, List, ap, append_assoc}
use Rattle.mono_answer.specs.declared.answer.Answer.TheVariants as answer
use Rattle.mono_answer.specs.Printed.{answer_text}
use Rattle.mono_forms.specs.CoreTexts.{core_line, needs_text}
use Rattle.mono_forms.proofs.core_text.push_whole.Goals as goal

pub returns : goal.returns
returns c =
    let refutation = answer_text (answer.Refutation c.args.steps.now) in
    let front = core_line c.args.lits.now ++ needs_text c.args.lits.now c.args.needs.now in
    c.in_ok-push_claim.ensures.ok ∙ (ap (λ (t : List ℕ). t ++ refutation) c.in_ok-push_core.ensures ∙ append_assoc c.args.out.now.items front refutation)
