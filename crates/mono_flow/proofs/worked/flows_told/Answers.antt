use Rattle.mono_flow.proofs.worked.flows_told.Goals as goal

pub returns-clause-too_much : goal.returns-clause-too_much
returns-clause-too_much c = λ h. absurd cc

pub returns-clause-too_much_for_nothing : goal.returns-clause-too_much_for_nothing
returns-clause-too_much_for_nothing c = λ h. absurd cc

pub returns-clause-along_an_absent_edge : goal.returns-clause-along_an_absent_edge
returns-clause-along_an_absent_edge c = λ h. absurd cc
