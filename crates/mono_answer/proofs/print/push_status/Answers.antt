use Rattle.mono_text.proofs.Beginnings.{starts_behind, starts_same, starts_further, stays, stays_behind}
use Rattle.mono_answer.proofs.print.push_status.Goals as goal

pub returns-in_err-extend_from_slice-clause-err : goal.returns-in_err-extend_from_slice-clause-err
returns-in_err-extend_from_slice-clause-err c = stays _ _ _ c.in_err-extend_from_slice.ensures.items

pub returns-in_err-extend_from_slice-2-clause-err : goal.returns-in_err-extend_from_slice-2-clause-err
returns-in_err-extend_from_slice-2-clause-err c = stays_behind _ _ c.extend_from_slice.new.self.items _ (starts_behind _ c.in_ok-extend_from_slice.ensures.items) (starts_same c.in_err-extend_from_slice-2.ensures.items)

pub returns-in_err-push-clause-err : goal.returns-in_err-push-clause-err
returns-in_err-push-clause-err c =
    stays_behind _ _ c.extend_from_slice-2.new.self.items _
    (starts_further _ c.extend_from_slice.new.self.items _ (starts_behind _ c.in_ok-extend_from_slice.ensures.items) (starts_behind _ c.in_ok-extend_from_slice-2.ensures.items))
    (starts_same c.in_err-push.ensures.items)
