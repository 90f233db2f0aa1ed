use Rattle.std.proofs.Common.{arith, refl}
use Rattle.mono_rows.proofs.TrailRows.{leaves_with_assigned, none_is_open, open_ones_wait}
use Rattle.mono_rows.proofs.trail.variables_leave_the_order.Goals as goal

pub returns-clause-assigned : goal.returns-clause-assigned
returns-clause-assigned c = λ h. let e = h.is_open in cc

pub returns-clause-did_not_wait : goal.returns-clause-did_not_wait
returns-clause-did_not_wait c = λ h. let e = h.waited in cc

pub returns-clause-waits_on : goal.returns-clause-waits_on
returns-clause-waits_on c = λ h. let e = h.gone in cc

pub returns-clause-no_variable : goal.returns-clause-no_variable
returns-clause-no_variable c = λ h. omega (arith, h.is_var.1)

pub returns-clause-other_is_lost : goal.returns-clause-other_is_lost
returns-clause-other_is_lost c = λ h. let e = h.stay 3 (λ same. omega (arith, same)) refl refl in cc

pub returns-clause-other_joins : goal.returns-clause-other_joins
returns-clause-other_joins c = λ h. let e = h.none_new 3 refl in cc

pub returns-clause-sign_is_lost : goal.returns-clause-sign_is_lost
returns-clause-sign_is_lost c = λ h. let e = h.phases in cc

pub returns-clause-shorter : goal.returns-clause-shorter
returns-clause-shorter c = λ h. omega (arith, h.as_many)

pub returns-clause-all_leave : goal.returns-clause-all_leave
returns-clause-all_leave c = record { waits = refl; phases = refl }

pub returns-clause-one_stays : goal.returns-clause-one_stays
returns-clause-one_stays c = λ h. let e = h.waits in cc

pub returns-clause-open_variable : goal.returns-clause-open_variable
returns-clause-open_variable c = λ h. let e = h.at 2 (omega arith, omega arith) in cc

pub returns-clause-open_and_gone : goal.returns-clause-open_and_gone
returns-clause-open_and_gone c = λ h. let e = h.at 2 (omega arith, omega arith) refl in cc

pub returns-clause-with_assigned : goal.returns-clause-with_assigned
returns-clause-with_assigned c = leaves_with_assigned

pub returns-clause-all_leave_signs : goal.returns-clause-all_leave_signs
returns-clause-all_leave_signs c = λ h. let e = h.phases in cc

pub returns-clause-none_open : goal.returns-clause-none_open
returns-clause-none_open c = none_is_open

pub returns-clause-assigned_and_gone : goal.returns-clause-assigned_and_gone
returns-clause-assigned_and_gone c = open_ones_wait
