use Rattle.std.proofs.Common.{arith}
use Rattle.mono_search_rows.proofs.worked_last_steps.what_no_list_holds.Goals as goal

pub returns-clause-target : goal.returns-clause-target
returns-clause-target c = λ t. let lt = t.1 in omega (arith, lt)
