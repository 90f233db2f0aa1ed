use Rattle.std.proofs.Common.{◌++◌, ◌∷◌, ◌∙◌, [], ℕ, List, decimal, ap}
use Rattle.mono_text.proofs.Beginnings.{starts_behind, stays_behind}
use Rattle.mono_answer.specs.Behind.{behind}
use Rattle.mono_answer.proofs.Printing.{behind_pair}
use Rattle.mono_answer.proofs.print.push_pair.Goals as goal

pub returns-clause-ok : goal.returns-clause-ok
returns-clause-ok c =
    let out = c.args.out.now.items in
    c.in_ok-push_number-2.ensures.ok
    ∙ (ap (λ (t : List ℕ). t ++ behind (decimal c.args.value ∷ [])) (c.in_ok-push_number.ensures.ok ∙ ap (λ (n : ℕ). out ++ behind (decimal n ∷ [])) c.from.ensures)
    ∙ behind_pair out (decimal c.args.name) (decimal c.args.value))

pub returns-in_err-push_number-2-clause-err : goal.returns-in_err-push_number-2-clause-err
returns-in_err-push_number-2-clause-err c = stays_behind _ _ c.push_number.new.out.items _ (starts_behind _ c.in_ok-push_number.ensures.ok) c.in_err-push_number-2.ensures.err
