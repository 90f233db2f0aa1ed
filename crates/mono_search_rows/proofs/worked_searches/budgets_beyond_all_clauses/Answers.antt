use Rattle.std.proofs.Common.{arith}
use Rattle.mono_search_rows.proofs.worked_searches.budgets_beyond_all_clauses.Goals as goal

pub returns : goal.returns
returns c = λ steps h. let few = h.few in omega (arith, few)
