use Rattle.std.proofs.Common.{◌++◌, ◌∷◌, ◌∙◌, [], ℕ, List, codes, ap}
use Rattle.mono_text.proofs.Beginnings.{starts_behind, starts_same, starts_further, stays, stays_behind}
use Rattle.mono_answer.specs.Behind.{behind}
use Rattle.mono_answer.specs.Printed.{numbers_text, with_zero, literals_from}
use Rattle.mono_answer.proofs.Printing.{end_line}
use Rattle.mono_answer.proofs.print.push_values.Goals as goal

pub returns-clause-ok : goal.returns-clause-ok
returns-clause-ok c =
    let out = c.args.out.now.items in
    let tokens = numbers_text (with_zero (literals_from 1 c.args.values.now)) in
    c.in_ok-push-2.ensures.items
    ∙ (ap (λ (t : List ℕ). t ++ 10 ∷ []) (c.in_ok-push_literals.ensures.ok ∙ ap (λ (t : List ℕ). t ++ behind tokens) c.in_ok-push.ensures.items)
    ∙ end_line out (codes "v") tokens)

pub returns-in_err-push-clause-err : goal.returns-in_err-push-clause-err
returns-in_err-push-clause-err c = stays _ _ _ c.in_err-push.ensures.items

pub returns-in_err-push_literals-clause-err : goal.returns-in_err-push_literals-clause-err
returns-in_err-push_literals-clause-err c = stays_behind _ _ c.push.new.self.items _ (starts_behind _ c.in_ok-push.ensures.items) c.in_err-push_literals.ensures.err

pub returns-in_err-push-2-clause-err : goal.returns-in_err-push-2-clause-err
returns-in_err-push-2-clause-err c =
    stays_behind _ _ c.push_literals.new.out.items _
    (starts_further _ c.push.new.self.items _ (starts_behind _ c.in_ok-push.ensures.items) (starts_behind _ c.in_ok-push_literals.ensures.ok))
    (starts_same c.in_err-push-2.ensures.items)
