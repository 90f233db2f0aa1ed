use Rattle.mono_text.proofs.Beginnings.{starts_behind, stays_behind}
use Rattle.mono_answer.proofs.print.push_steps.Goals as goal

pub returns-in_err-push_step-clause-err : goal.returns-in_err-push_step-clause-err
returns-in_err-push_step-clause-err c = stays_behind _ _ c.loop-step.out.items _ (starts_behind _ c.loop-step.invariant) c.in_err-push_step.ensures.err
