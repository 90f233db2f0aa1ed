use Rattle.mono_search_rows.proofs.worked_outcomes.outcomes_with_a_bound.Goals as goal

pub returns-clause-not_the_best : goal.returns-clause-not_the_best
returns-clause-not_the_best c = λ h. let e = h.refutes.refutes in cc

pub returns-clause-weight : goal.returns-clause-weight
returns-clause-weight c = λ h. let e = h.flow in cc
