use Rattle.std.proofs.Common.{refl, arith}
use Rattle.mono_steps.proofs.WorkedNew.{one_is_end, one_is_left_open}
use Rattle.mono_cmd.proofs.worked_answers.worked_progress.Goals as goal

pub returns-clause-spent : goal.returns-clause-spent
returns-clause-spent c = record {
  justified = refl;
  new = record { chains = ((λ full. record { exact = one_is_end _ refl refl; new = one_is_left_open _ refl }), tt); none_empty = refl };
  chains = refl;
  few = omega arith;
  short = omega arith;
}

pub returns-clause-not_yet : goal.returns-clause-not_yet
returns-clause-not_yet c = λ h. let e = h.chains in cc

pub returns-clause-past : goal.returns-clause-past
returns-clause-past c = λ h. let e = h.chains in cc
