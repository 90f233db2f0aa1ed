use Rattle.std.proofs.Common.{ℕ, sym, ap, subst, ◌∙◌}
use Rattle.std.specs.Prelude.{IsTrue}
use Rattle.mono_answer.specs.declared.answer.Answer.TheVariants as answer
use Rattle.mono_answer.specs.Versions.{answer_names_earlier}
use Rattle.mono_check.specs.Verdicts.{IsVerdict}
use Rattle.mono_answer.specs.Printed.{answer_text_as}
use Rattle.mono_check.proofs.HeldSteps.{IsHeld, model_is_held, refutation_is_held, progress_is_held}
use Rattle.mono_check.proofs.migration.migrate.Goals as goal
use Rattle.mono_check.proofs.migration.migrate.Goals.{in-Model, in-Refutation+in_ok-held_steps-in-Refutation, in-Progress+in_ok-held_steps-in-Progress}

pub print_answer_as-requires : goal.print_answer_as-requires
print_answer_as-requires c =
    let p = c.args.problem.now in
    let text = c.args.answer.now in
    let judged : IsVerdict p text c.in_ok-verdict.verdict = c.in_ok-verdict.ensures.verdict in
    let held : IsHeld p text c.match-verdict.held = elim c.match-verdict.branch [
      | in-Model w ↦
          let model = c.in_ok-verdict.ensures.values w.in-Model.is in
          model_is_held p text c.in_ok-verdict.verdict model.0 model.1 c.in_ok-verdict.values.items c.match-verdict.held judged w.in-Model.is model.2 (w.held-is ∙ ap answer.Model w.from_vec.ensures)
      | in-Refutation+in_ok-held_steps-in-Refutation w ↦
          refutation_is_held p text c.in_ok-verdict.verdict w.in_ok-held_steps-in-Refutation.field-0 c.match-verdict.held judged w.in-Refutation.is w.in_ok-held_steps-in-Refutation.ensures w.held-is
      | in-Progress+in_ok-held_steps-in-Progress w ↦
          progress_is_held p text c.in_ok-verdict.verdict w.in_ok-held_steps-in-Progress.field-0 w.in-Progress.field-0 c.match-verdict.held judged w.in-Progress.is w.in_ok-held_steps-in-Progress.ensures w.held-is
    ] in
    subst (λ (n : ℕ). IsTrue (answer_names_earlier n c.match-verdict.held)) (sym c.clause_count.ensures) held.earlier

pub returns : goal.returns
returns c =
    let p = c.args.problem.now in
    let text = c.args.answer.now in
    let judged : IsVerdict p text c.in_ok-verdict.verdict = c.in_ok-verdict.ensures.verdict in
    let held : IsHeld p text c.match-verdict.held = elim c.match-verdict.branch [
      | in-Model w ↦
          let model = c.in_ok-verdict.ensures.values w.in-Model.is in
          model_is_held p text c.in_ok-verdict.verdict model.0 model.1 c.in_ok-verdict.values.items c.match-verdict.held judged w.in-Model.is model.2 (w.held-is ∙ ap answer.Model w.from_vec.ensures)
      | in-Refutation+in_ok-held_steps-in-Refutation w ↦
          refutation_is_held p text c.in_ok-verdict.verdict w.in_ok-held_steps-in-Refutation.field-0 c.match-verdict.held judged w.in-Refutation.is w.in_ok-held_steps-in-Refutation.ensures w.held-is
      | in-Progress+in_ok-held_steps-in-Progress w ↦
          progress_is_held p text c.in_ok-verdict.verdict w.in_ok-held_steps-in-Progress.field-0 w.in-Progress.field-0 c.match-verdict.held judged w.in-Progress.is w.in_ok-held_steps-in-Progress.ensures w.held-is
    ] in
    record {
      verdict = held.verdict;
      judged = held.judged;
      accepted = held.accepted;
      answer = c.match-verdict.held;
      stands = held.stands;
      is = c.from_vec-2.ensures ∙ c.in_ok-text.ensures ∙ ap (λ (n : ℕ). answer_text_as c.match-verdict.held c.args.version n) c.clause_count.ensures;
    }
