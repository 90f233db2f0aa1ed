use Rattle.std.proofs.Common.{arith, pos}
use Rattle.mono_rows.proofs.trail.unsound_trails.Goals as goal

pub returns-clause-both_signs : goal.returns-clause-both_signs
returns-clause-both_signs c = λ h. let e = h.partial in cc

pub returns-clause-beyond : goal.returns-clause-beyond
returns-clause-beyond c = λ h. let w = h.within 1 (pos 4) (omega arith) in omega (arith, w.1)

pub returns-clause-no_mark : goal.returns-clause-no_mark
returns-clause-no_mark c = λ h. omega (arith, h.as_many)

pub returns-clause-level_above : goal.returns-clause-level_above
returns-clause-level_above c = λ h. omega (arith, h.climbs.1.1)

pub returns-clause-implied_climbs : goal.returns-clause-implied_climbs
returns-clause-implied_climbs c = λ h. omega (arith, h.climbs.1.0)

pub returns-clause-decided_stays : goal.returns-clause-decided_stays
returns-clause-decided_stays c = λ h. omega (arith, h.climbs.1.0)

pub returns-clause-too_many_given : goal.returns-clause-too_many_given
returns-clause-too_many_given c = λ h. omega (arith, h.given_in)

pub returns-clause-too_many_variables : goal.returns-clause-too_many_variables
returns-clause-too_many_variables c = λ h. omega (arith, h.few)
