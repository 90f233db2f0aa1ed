use Rattle.std.proofs.Common.{◌++◌, ◌∷◌, ◌∙◌, [], ℕ, List, get_or, decimal, ap}
use Rattle.mono_text.proofs.Beginnings.{starts_behind, stays_behind}
use Rattle.mono_answer.specs.Behind.{behind}
use Rattle.mono_answer.proofs.Printing.{labels_more}
use Rattle.mono_answer.proofs.print.push_labels.Goals as goal

pub loop-label-preserved : goal.loop-label-preserved
loop-label-preserved c =
    let label = get_or c.args.labels.now c.loop-label.label-index (record { node = 0; value = 0 }) in
    c.in_ok-push_pair.ensures.ok
    ∙ (ap (λ (t : List ℕ). t ++ behind (decimal label.node ∷ decimal label.value ∷ [])) c.loop-label.invariant
    ∙ labels_more c.args.out.now.items c.args.labels.now c.loop-label.label-index (record { node = 0; value = 0 }) c.loop-label-test.true)

pub returns-in_err-push_pair-clause-err : goal.returns-in_err-push_pair-clause-err
returns-in_err-push_pair-clause-err c = stays_behind _ _ c.loop-label.out.items _ (starts_behind _ c.loop-label.invariant) c.in_err-push_pair.ensures.err
