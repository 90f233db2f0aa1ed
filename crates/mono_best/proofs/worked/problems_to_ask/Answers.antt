use Rattle.std.proofs.Common.{arith}
use Rattle.mono_best.proofs.worked.problems_to_ask.Goals as goal

pub returns-clause-no_bound : goal.returns-clause-no_bound
returns-clause-no_bound c = λ h. let e = h.bounded in cc

pub returns-clause-one_predicate_left : goal.returns-clause-one_predicate_left
returns-clause-one_predicate_left c = λ atoms len. record { vars = omega arith; atoms = omega (arith, len); clauses = omega arith; literals = omega arith }

pub returns-clause-no_predicate_left : goal.returns-clause-no_predicate_left
returns-clause-no_predicate_left c = λ atoms len h. absurd (omega (arith, len, h.atoms))

pub returns-clause-one_clause_left : goal.returns-clause-one_clause_left
returns-clause-one_clause_left c = λ clauses len lits. record { vars = omega arith; atoms = omega arith; clauses = omega (arith, len); literals = omega (arith, lits) }

pub returns-clause-no_clause_left : goal.returns-clause-no_clause_left
returns-clause-no_clause_left c = λ clauses len h. absurd (omega (arith, len, h.clauses))

pub returns-clause-no_literal_left : goal.returns-clause-no_literal_left
returns-clause-no_literal_left c = λ clauses lits h. absurd (omega (arith, lits, h.literals))
