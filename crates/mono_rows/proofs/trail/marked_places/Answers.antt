use Rattle.mono_rows.proofs.TrailRows.{none_is_marked}
use Rattle.mono_rows.proofs.trail.marked_places.Goals as goal

pub returns-clause-none : goal.returns-clause-none
returns-clause-none c = none_is_marked

pub returns-clause-second : goal.returns-clause-second
returns-clause-second c = λ h. let e = h.unmarked 1 in cc
