use Rattle.std.proofs.Common.{refl, arith}
use Rattle.mono_steps.proofs.WorkedNew.{one_is_new}
use Rattle.mono_search.specs.Worked.{two_clauses}
use Rattle.mono_search_rows.proofs.worked_spending.runs_that_spend_their_budget.Goals as goal

pub returns : goal.returns
returns c = record { chains = refl; new = one_is_new two_clauses refl refl refl; few = omega arith }
