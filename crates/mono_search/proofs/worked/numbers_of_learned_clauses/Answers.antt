use Rattle.mono_search.proofs.worked.numbers_of_learned_clauses.Goals as goal

pub returns-clause-another : goal.returns-clause-another
returns-clause-another c = λ e. cc

pub returns-clause-beyond : goal.returns-clause-beyond
returns-clause-beyond c = λ e. cc
