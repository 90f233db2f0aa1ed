use Rattle.std.proofs.Common.{◌++◌, ◌∷◌, ◌∙◌, [], ℕ, List, get_or, decimal, ap}
use Rattle.mono_text.proofs.Beginnings.{starts_behind, stays_behind}
use Rattle.mono_answer.specs.Behind.{behind}
use Rattle.mono_answer.proofs.Printing.{amounts_more}
use Rattle.mono_answer.proofs.print.push_amounts.Goals as goal

pub loop-amount-preserved : goal.loop-amount-preserved
loop-amount-preserved c =
    let amount = get_or c.args.amounts.now c.loop-amount.amount-index (record { edge = 0; amount = 0 }) in
    c.in_ok-push_pair.ensures.ok
    ∙ (ap (λ (t : List ℕ). t ++ behind (decimal amount.edge ∷ decimal amount.amount ∷ [])) c.loop-amount.invariant
    ∙ amounts_more c.args.out.now.items c.args.amounts.now c.loop-amount.amount-index (record { edge = 0; amount = 0 }) c.loop-amount-test.true)

pub returns-in_err-push_pair-clause-err : goal.returns-in_err-push_pair-clause-err
returns-in_err-push_pair-clause-err c = stays_behind _ _ c.loop-amount.out.items _ (starts_behind _ c.loop-amount.invariant) c.in_err-push_pair.ensures.err
