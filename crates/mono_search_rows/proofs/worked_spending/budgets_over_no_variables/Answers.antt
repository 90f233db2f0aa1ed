use Rattle.std.proofs.Common.{refl, arith}
use Rattle.mono_steps.proofs.WorkedNew.{one_is_new}
use Rattle.mono_search.specs.Worked.{two_clauses}
use Rattle.mono_search_rows.proofs.worked_spending.budgets_over_no_variables.Goals as goal

pub returns-clause-new : goal.returns-clause-new
returns-clause-new c = one_is_new (record two_clauses { vars = 0 }) refl refl refl

pub returns-clause-spent : goal.returns-clause-spent
returns-clause-spent c = λ h. let few = h.few in omega (arith, few)
