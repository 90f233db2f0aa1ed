use Rattle.std.proofs.Common.{refl}
use Rattle.mono_rows.proofs.inputs.numbers_beyond_the_limits.Goals as goal

pub returns-clause-clause : goal.returns-clause-clause
returns-clause-clause c = λ zs full. rw full refl

pub returns-clause-literal : goal.returns-clause-literal
returns-clause-literal c = λ zs full. rw full refl

pub returns-clause-too_large : goal.returns-clause-too_large
returns-clause-too_large c = λ zs full. refl

pub returns-clause-no_number : goal.returns-clause-no_number
returns-clause-no_number c = λ zs full. refl
