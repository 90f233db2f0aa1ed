use Rattle.mono_rows.proofs.ReasonRows.{conflict_5, no_conflict_4, no_conflict_6, no_conflict_below, false_below_3, not_false_4}
use Rattle.mono_rows.proofs.learn.conflicts.Goals as goal

pub returns-clause-conflict : goal.returns-clause-conflict
returns-clause-conflict c = conflict_5

pub returns-clause-true_clause : goal.returns-clause-true_clause
returns-clause-true_clause c = no_conflict_4

pub returns-clause-no_clause : goal.returns-clause-no_clause
returns-clause-no_clause c = no_conflict_6

pub returns-clause-lower : goal.returns-clause-lower
returns-clause-lower c = no_conflict_below

pub returns-clause-lower_is_false : goal.returns-clause-lower_is_false
returns-clause-lower_is_false c = false_below_3

pub returns-clause-true_is_not_false : goal.returns-clause-true_is_not_false
returns-clause-true_is_not_false c = not_false_4
