use Rattle.mono_text.proofs.Beginnings.{starts_behind, stays_behind}
use Rattle.mono_answer.proofs.print.push_model.Goals as goal

pub returns-in_err-push_values-clause-err : goal.returns-in_err-push_values-clause-err
returns-in_err-push_values-clause-err c = stays_behind _ _ c.push_status.new.out.items _ (starts_behind _ c.in_ok-push_status.ensures.ok) c.in_err-push_values.ensures.err
