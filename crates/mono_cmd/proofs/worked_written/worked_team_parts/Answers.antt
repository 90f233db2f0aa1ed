use Rattle.mono_cmd.proofs.worked_written.worked_team_parts.Goals as goal

pub returns-clause-model : goal.returns-clause-model
returns-clause-model c = λ p workers rounds text h. h

pub returns-clause-refutation : goal.returns-clause-refutation
returns-clause-refutation c = λ p workers rounds text h. h

pub returns-clause-board : goal.returns-clause-board
returns-clause-board c = λ p workers rounds text h. h
