use Rattle.std.proofs.Common.{refl, arith}
use Rattle.mono_rows.specs.Cyclic.{has_no_cycle}
use Rattle.mono_rows.proofs.VerdictRows.{both_right, cyclic, not_the_first, second_wrong}
use Rattle.mono_rows.proofs.verdicts.first_wrong_predicate.Goals as goal

pub returns-clause-none : goal.returns-clause-none
returns-clause-none c = both_right

pub returns-clause-not_none : goal.returns-clause-not_none
returns-clause-not_none c = λ a. cyclic ((a 1 has_no_cycle (omega arith)).0 refl)

pub returns-clause-second : goal.returns-clause-second
returns-clause-second c = second_wrong

pub returns-clause-not_the_first : goal.returns-clause-not_the_first
returns-clause-not_the_first c = not_the_first

pub returns-clause-not_beyond : goal.returns-clause-not_beyond
returns-clause-not_beyond c = λ v. let high = v.high in omega (arith, high)
