use Rattle.mono_rows.proofs.PointRows.{not_7, not_8_alone, not_8_and_9}
use Rattle.mono_rows.proofs.learn.conflict_teaches_nothing_else.Goals as goal

pub returns-clause-one_literal : goal.returns-clause-one_literal
returns-clause-one_literal c = not_8_alone

pub returns-clause-before_the_first_point : goal.returns-clause-before_the_first_point
returns-clause-before_the_first_point c = not_8_and_9

pub returns-clause-behind_the_first_point : goal.returns-clause-behind_the_first_point
returns-clause-behind_the_first_point c = not_7
