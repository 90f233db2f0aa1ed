use Rattle.std.proofs.Common.{refl, arith}
use Rattle.mono_steps.proofs.WorkedTrimmed.{all_named, first_not_named}
use Rattle.mono_cmd.proofs.worked_answers.worked_refutation.Goals as goal

pub returns-clause-refutation : goal.returns-clause-refutation
returns-clause-refutation c = record { refutes = refl; named = all_named; short = omega arith }

pub returns-clause-not_trimmed : goal.returns-clause-not_trimmed
returns-clause-not_trimmed c = λ h. first_not_named (h.named 0 (omega arith))

pub returns-clause-no_end : goal.returns-clause-no_end
returns-clause-no_end c = λ h. let e = h.refutes in cc
