use Rattle.std.proofs.Common.{refl, arith}
use Rattle.mono_cmd.proofs.worked_answers.worked_model.Goals as goal

pub returns-clause-model : goal.returns-clause-model
returns-clause-model c = record { len = refl; satisfies = (refl, (λ k d lt. absurd (omega arith))) }

pub returns-clause-false_clause : goal.returns-clause-false_clause
returns-clause-false_clause c = λ h. let e = h.satisfies.0 in cc
