use Rattle.mono_search_rows.proofs.worked_outcomes.turns_of_answers.Goals as goal

pub returns-clause-model : goal.returns-clause-model
returns-clause-model c = λ p workers rounds values board h. (h.taken, h.reached)

pub returns-clause-refutation : goal.returns-clause-refutation
returns-clause-refutation c = λ p workers rounds board h. (h.taken, h.before, h.reached)
