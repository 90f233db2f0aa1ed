use Rattle.std.proofs.Common.{zero, suc, ◌≡◌, arith}
use Rattle.mono_trail.specs.declared.reason.Reason.TheVariants.{Decided, Clause}
use Rattle.mono_rows.proofs.SettledRows.{settles_nothing, settles_late}
use Rattle.mono_rows.proofs.learn.settled_trails.Goals as goal

pub returns-clause-same : goal.returns-clause-same
returns-clause-same c = settles_nothing

pub returns-clause-late : goal.returns-clause-late
returns-clause-late c = settles_late

pub returns-clause-was_not_unit : goal.returns-clause-was_not_unit
returns-clause-was_not_unit c = λ h. let w = h.reasons 1 (omega arith) in let e = w.is in let f = w.others in cc

pub returns-clause-of_a_clause : goal.returns-clause-of_a_clause
returns-clause-of_a_clause c = λ h. let e : Clause 1 ≡ Clause 7 = h.reasons 3 (omega arith) in cc

pub returns-clause-of_a_decision : goal.returns-clause-of_a_decision
returns-clause-of_a_decision c = λ h. let e : Clause 1 ≡ Decided = h.reasons 0 (omega arith) in cc

pub returns-clause-other_variables : goal.returns-clause-other_variables
returns-clause-other_variables c = λ h. let e = h.vars in cc

pub returns-clause-other_literals : goal.returns-clause-other_literals
returns-clause-other_literals c = λ h. let e = h.lits in cc

pub returns-clause-other_level : goal.returns-clause-other_level
returns-clause-other_level c = λ h. let e = h.level in cc

pub returns-clause-more_given : goal.returns-clause-more_given
returns-clause-more_given c = λ h. let e = h.given in cc

pub returns-clause-more_marks : goal.returns-clause-more_marks
returns-clause-more_marks c = λ h. let e = h.as_many in cc

pub returns-clause-level_of_a_literal : goal.returns-clause-level_of_a_literal
returns-clause-level_of_a_literal c = λ h. let e : suc (suc zero) ≡ suc zero = h.levels 1 in cc
