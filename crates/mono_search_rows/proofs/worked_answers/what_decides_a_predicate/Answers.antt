use Rattle.std.proofs.Common.{[], ◌∷◌, refl}
use Rattle.mono_search_rows.proofs.NoWalks.{no_walk}
use Rattle.mono_search_rows.proofs.worked_answers.what_decides_a_predicate.Goals as goal

pub returns-clause-holds : goal.returns-clause-holds
returns-clause-holds c = (0 ∷ [], refl)

pub returns-clause-fails : goal.returns-clause-fails
returns-clause-fails c = no_walk

pub returns-clause-holds_nowhere : goal.returns-clause-holds_nowhere
returns-clause-holds_nowhere c = no_walk

pub returns-clause-fails_nowhere : goal.returns-clause-fails_nowhere
returns-clause-fails_nowhere c = λ h. h (0 ∷ [], refl)
