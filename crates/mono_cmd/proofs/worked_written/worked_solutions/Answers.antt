use Rattle.std.proofs.Common.{refl}
use Rattle.mono_cmd.proofs.worked_written.worked_solutions.Goals as goal

pub returns-clause-solution : goal.returns-clause-solution
returns-clause-solution c = λ p budget a h. (h.right, h.accepted)

pub returns-clause-narrowing : goal.returns-clause-narrowing
returns-clause-narrowing c = λ p budget lits o h. (h.literals, h.right, h.accepted)

pub returns-clause-bounding : goal.returns-clause-bounding
returns-clause-bounding c = λ p budget n o h. (h.right, h.accepted)

pub returns-clause-never_refuted : goal.returns-clause-never_refuted
returns-clause-never_refuted c = refl

pub returns-clause-sizes : goal.returns-clause-sizes
returns-clause-sizes c = λ p budget s h. (h.vars, h.clauses, h.edges, h.predicates)

pub returns-clause-summary : goal.returns-clause-summary
returns-clause-summary c = λ p budget s h. (h.solves, h.progress, h.judged)
