use Rattle.mono_text.proofs.Beginnings.{starts_behind, stays_behind}
use Rattle.mono_answer.proofs.print.push_names.Goals as goal

pub returns-in_err-push_number-clause-err : goal.returns-in_err-push_number-clause-err
returns-in_err-push_number-clause-err c = stays_behind _ _ c.loop-name.out.items _ (starts_behind _ c.loop-name.invariant) c.in_err-push_number.ensures.err
