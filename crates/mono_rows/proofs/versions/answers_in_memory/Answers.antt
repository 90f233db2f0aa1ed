use Rattle.std.proofs.Common.{◌≡◌, ◌+◌, ◌-◌, ◌<◌, ◌^◌, true, false, refl, arith}
use Rattle.mono_rows.proofs.versions.answers_in_memory.Goals as goal

pub returns-clause-greatest : goal.returns-clause-greatest
returns-clause-greatest c = record { literals = refl; few = omega arith }

pub returns-clause-too_many : goal.returns-clause-too_many
returns-clause-too_many c = λ h. let few = h.few in omega (arith, few)

pub returns-clause-one_step : goal.returns-clause-one_step
returns-clause-one_step c = record { literals = refl; few = let below : 2 ^ 64 - 2 + 1 < 2 ^ 64 = omega arith in below }

pub returns-clause-one_step_too_many : goal.returns-clause-one_step_too_many
returns-clause-one_step_too_many c = λ h. let few : 2 ^ 64 - 1 + 1 < 2 ^ 64 = h.few in omega (arith, few)

pub returns-clause-no_literal : goal.returns-clause-no_literal
returns-clause-no_literal c = λ h. let e : false ≡ true = h.literals in cc
