use Rattle.std.proofs.Common.{refl}
use Rattle.mono_core.proofs.worked.needs_by_place.Goals as goal

pub returns-clause-none : goal.returns-clause-none
returns-clause-none c = tt

pub returns-clause-too_few : goal.returns-clause-too_few
returns-clause-too_few c = λ h. h

pub returns-clause-too_many : goal.returns-clause-too_many
returns-clause-too_many c = λ h. h.1

pub returns-clause-tried : goal.returns-clause-tried
returns-clause-tried c = λ h. h.0

pub returns-clause-own_place : goal.returns-clause-own_place
returns-clause-own_place c = (refl, tt)

pub returns-clause-other_place : goal.returns-clause-other_place
returns-clause-other_place c = λ h. let e = h.0 in cc
