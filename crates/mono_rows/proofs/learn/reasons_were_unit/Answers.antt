use Rattle.mono_rows.proofs.ReasonRows.{unit_8, not_unit_before, not_of_7, all_have_reasons, none_without_clauses}
use Rattle.mono_rows.proofs.learn.reasons_were_unit.Goals as goal

pub returns-clause-unit : goal.returns-clause-unit
returns-clause-unit c = unit_8

pub returns-clause-came_later : goal.returns-clause-came_later
returns-clause-came_later c = not_unit_before

pub returns-clause-not_in_it : goal.returns-clause-not_in_it
returns-clause-not_in_it c = not_of_7

pub returns-clause-all : goal.returns-clause-all
returns-clause-all c = all_have_reasons

pub returns-clause-without_clauses : goal.returns-clause-without_clauses
returns-clause-without_clauses c = none_without_clauses
