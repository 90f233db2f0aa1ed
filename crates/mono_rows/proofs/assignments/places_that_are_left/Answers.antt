use Rattle.std.proofs.Common.{◌≡◌, ◌<◌, ℕ, true, false, List, length, ap, arith}
use Rattle.mono_rows.proofs.assignments.places_that_are_left.Goals as goal

pub returns-clause-last_unmarked : goal.returns-clause-last_unmarked
returns-clause-last_unmarked c = λ h. let e : false ≡ true = h.on in cc

pub returns-clause-last_of_none : goal.returns-clause-last_of_none
returns-clause-last_of_none c = λ h. let lt : 0 < 0 = h.some in omega (arith, lt)

pub returns-clause-taken_unmarked : goal.returns-clause-taken_unmarked
returns-clause-taken_unmarked c = λ h. let e : false ≡ true = h.on in cc

pub returns-clause-one_stands : goal.returns-clause-one_stands
returns-clause-one_stands c = λ h. let e : 1 ≡ 0 = ap (λ (ps : List ℕ). length ps) h.none in omega (arith, e)

pub returns-clause-one_is_marked : goal.returns-clause-one_is_marked
returns-clause-one_is_marked c = λ h. let e : true ≡ false = h.off 0 in cc
