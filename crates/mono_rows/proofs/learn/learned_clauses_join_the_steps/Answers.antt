use Rattle.std.proofs.Common.{◌≡◌, ◌<◌, arith}
use Rattle.mono_rows.proofs.LearntRows.{clause_1, not_another_step, not_by_clause_1, not_clause_2}
use Rattle.mono_rows.proofs.learn.learned_clauses_join_the_steps.Goals as goal

pub returns-clause-learned : goal.returns-clause-learned
returns-clause-learned c = clause_1

pub returns-clause-another_number : goal.returns-clause-another_number
returns-clause-another_number c = λ h. let e : 4 ≡ 3 = h.number in omega (arith, e)

pub returns-clause-another_level : goal.returns-clause-another_level
returns-clause-another_level c = λ h. let lt : 1 < 1 = h.learnt.lower in omega (arith, lt)

pub returns-clause-another_clause : goal.returns-clause-another_clause
returns-clause-another_clause c = not_clause_2

pub returns-clause-not_its_end : goal.returns-clause-not_its_end
returns-clause-not_its_end c = not_by_clause_1

pub returns-clause-another_step : goal.returns-clause-another_step
returns-clause-another_step c = not_another_step
