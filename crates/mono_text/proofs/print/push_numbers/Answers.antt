use Rattle.mono_text.proofs.Beginnings.{starts_behind, starts_same, starts_further, stays_behind}
use Rattle.mono_text.proofs.print.push_numbers.Goals as goal

pub returns-in_err-push-clause-err : goal.returns-in_err-push-clause-err
returns-in_err-push-clause-err c = stays_behind _ _ c.loop-number.out.items _ (starts_behind _ c.loop-number.invariant) (starts_same c.in_err-push.ensures.items)

pub returns-in_err-push_natural-clause-err : goal.returns-in_err-push_natural-clause-err
returns-in_err-push_natural-clause-err c =
    stays_behind _ _ c.push.new.self.items _
    (starts_further _ c.loop-number.out.items _ (starts_behind _ c.loop-number.invariant) (starts_behind _ c.in_ok-push.ensures.items))
    (starts_same c.in_err-push_natural.ensures.err)
