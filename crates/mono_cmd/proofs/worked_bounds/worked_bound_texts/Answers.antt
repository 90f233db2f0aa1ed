use Rattle.std.proofs.Common.{refl}
use Rattle.std.specs.Fmt.{digits}
use Rattle.mono_cmd.proofs.worked_bounds.worked_bound_texts.Goals as goal

pub returns-clause-best : goal.returns-clause-best
unfolding digits
returns-clause-best c = refl

pub returns-clause-never : goal.returns-clause-never
unfolding digits
returns-clause-never c = refl

pub returns-clause-beyond : goal.returns-clause-beyond
unfolding digits
returns-clause-beyond c = refl

pub returns-clause-spent : goal.returns-clause-spent
unfolding digits
returns-clause-spent c = refl
