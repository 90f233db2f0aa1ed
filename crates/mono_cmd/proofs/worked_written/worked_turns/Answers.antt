use Rattle.mono_cmd.proofs.worked_written.worked_turns.Goals as goal

pub returns-clause-model : goal.returns-clause-model
returns-clause-model c = λ p workers rounds values h. h

pub returns-clause-refutation : goal.returns-clause-refutation
returns-clause-refutation c = λ p workers rounds steps h. h

pub returns-clause-progress : goal.returns-clause-progress
returns-clause-progress c = λ p workers rounds board h. h

pub returns-clause-solution : goal.returns-clause-solution
returns-clause-solution c = λ p workers rounds a h. (h.right, h.accepted)

pub returns-clause-teamed : goal.returns-clause-teamed
returns-clause-teamed c = λ p workers rounds e h. (h.answer, h.is, h.right)
