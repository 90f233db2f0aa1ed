use Rattle.mono_text.proofs.Beginnings.{starts_behind, starts_same, stays, stays_behind}
use Rattle.mono_gnf.proofs.print.push_literal.Goals as goal

pub returns-in_err-push_signed-clause-err : goal.returns-in_err-push_signed-clause-err
returns-in_err-push_signed-clause-err c = stays _ _ _ c.in_err-push_signed.ensures.err

pub returns-in_err-push-clause-err : goal.returns-in_err-push-clause-err
returns-in_err-push-clause-err c = stays_behind _ _ c.push_signed.new.out.items _ (starts_behind _ c.in_ok-push_signed.ensures.ok) (starts_same c.in_err-push.ensures.items)
