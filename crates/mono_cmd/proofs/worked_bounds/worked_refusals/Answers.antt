use Rattle.std.proofs.Common.{◌≡◌, ℕ, List, [], ap, codes, refl, arith}
use Rattle.std.specs.Prelude.{slice_index}
use Rattle.std.proofs.lemmas.Int.{ints}
use Rattle.mono_best.specs.Asking.{HasBoundedAtom}
use Rattle.mono_best.specs.Worked.{weighed}
use Rattle.mono_cmd.proofs.worked_bounds.worked_refusals.Goals as goal

there : HasBoundedAtom (weighed []) 1
there = record { low = omega arith; high = omega arith; bounded = refl }

no_second : HasBoundedAtom (weighed []) 2 → ⊥
no_second h = let high = h.high in omega (arith, high)

pub returns-clause-no_predicate : goal.returns-clause-no_predicate
returns-clause-no_predicate c = no_second

pub returns-clause-there : goal.returns-clause-there
returns-clause-there c = λ h. h there

pub returns-clause-bound : goal.returns-clause-bound
returns-clause-bound c = (there, λ fits. fits)

pub returns-clause-bound_of_none : goal.returns-clause-bound_of_none
returns-clause-bound_of_none c = λ h. no_second h.0

pub returns-clause-bound_fits : goal.returns-clause-bound_fits
returns-clause-bound_fits c = λ h. h.1 tt

pub returns-clause-room : goal.returns-clause-room
returns-clause-room c = λ h. h.2 (record { vars = omega arith; atoms = omega arith; clauses = omega arith; literals = omega arith })

pub returns-clause-no_room : goal.returns-clause-no_room
returns-clause-no_room c = (record { low = omega arith; high = omega arith; bounded = refl }, tt, λ room. let few = room.vars in omega (arith, few))

pub returns-clause-no_room_for_none : goal.returns-clause-no_room_for_none
returns-clause-no_room_for_none c = λ h. let high = h.0.high in omega (arith, high)

pub returns-clause-no_room_for_the_bound : goal.returns-clause-no_room_for_the_bound
returns-clause-no_room_for_the_bound c = λ h. h.1

pub returns-clause-best_has_no_bound_to_refuse : goal.returns-clause-best_has_no_bound_to_refuse
returns-clause-best_has_no_bound_to_refuse c = λ h. h.1 tt

pub returns-clause-ask_refuses_the_bound : goal.returns-clause-ask_refuses_the_bound
returns-clause-ask_refuses_the_bound c = (there, λ fits. let low = fits.0 in omega (arith, ints, low))

pub returns-clause-ask_takes_the_bound : goal.returns-clause-ask_takes_the_bound
returns-clause-ask_takes_the_bound c = λ h. h.1 (omega (arith, ints), omega (arith, ints))

pub returns-clause-other_text : goal.returns-clause-other_text
returns-clause-other_text c = λ h. let same : 0 ≡ 112 = ap (λ (t : List ℕ). slice_index t 0) h.3 in omega (arith, same)

pub returns-clause-asked_of_none : goal.returns-clause-asked_of_none
returns-clause-asked_of_none c = λ text h. no_second h.0

pub returns-clause-runs : goal.returns-clause-runs
returns-clause-runs c = record { file = codes "f"; is = refl; text = codes ""; told = refl; stands = (refl, refl) }

pub returns-clause-other_predicate : goal.returns-clause-other_predicate
returns-clause-other_predicate c = λ h. let e = h.is in cc

pub returns-clause-asks : goal.returns-clause-asks
returns-clause-asks c = record { file = codes "f"; is = refl; text = codes ""; told = refl; stands = (refl, refl) }

pub returns-clause-other_bound : goal.returns-clause-other_bound
returns-clause-other_bound c = λ h. let e = h.is in cc

pub returns-clause-never_without_its_line : goal.returns-clause-never_without_its_line
returns-clause-never_without_its_line c = λ h. let same : 115 ≡ 99 = ap (λ (t : List ℕ). slice_index t 0) h.2 in omega (arith, same)
