use Rattle.std.proofs.Common.{◌≡◌, refl, arith}
use Rattle.mono_rows.proofs.found.answers_for_targets.Goals as goal

pub returns-clause-none : goal.returns-clause-none
returns-clause-none c = record { len = refl; each = λ i lt. absurd (omega (arith, lt)) }

pub returns-clause-one_left_out : goal.returns-clause-one_left_out
returns-clause-one_left_out c = λ a. let e : 0 ≡ 1 = a.len in omega (arith, e)

pub returns-clause-one_too_many : goal.returns-clause-one_too_many
returns-clause-one_too_many c = λ a. let e : 1 ≡ 0 = a.len in omega (arith, e)
