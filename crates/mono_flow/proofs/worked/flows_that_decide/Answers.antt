use Rattle.std.proofs.Common.{refl}
use Rattle.mono_flow.proofs.WorkedRows.{none_decides, too_much_for_an_absent_edge}
use Rattle.mono_flow.proofs.worked.flows_that_decide.Goals as goal

pub returns-clause-enough : goal.returns-clause-enough
returns-clause-enough c = (λ holds. refl, λ e. ((λ k. 5), refl))

pub returns-clause-too_little : goal.returns-clause-too_little
returns-clause-too_little c = λ h. (let e = h.0 ((λ k. 5), refl) in absurd cc)

pub returns-clause-none : goal.returns-clause-none
returns-clause-none c = none_decides

pub returns-clause-too_much : goal.returns-clause-too_much
returns-clause-too_much c = too_much_for_an_absent_edge
