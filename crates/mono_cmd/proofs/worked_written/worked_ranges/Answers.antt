use Rattle.mono_cmd.proofs.worked_written.worked_ranges.Goals as goal

pub returns-clause-budgets : goal.returns-clause-budgets
returns-clause-budgets c = λ file budget h. h

pub returns-clause-sizes : goal.returns-clause-sizes
returns-clause-sizes c = λ k size seed solve h. h

pub returns-clause-teams : goal.returns-clause-teams
returns-clause-teams c = λ file workers rounds h. h
