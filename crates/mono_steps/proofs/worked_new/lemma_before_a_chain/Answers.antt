use Rattle.std.proofs.Common.{refl}
use Rattle.mono_steps.proofs.WorkedNew.{one_is_end, one_is_left_open}
use Rattle.mono_steps.proofs.worked_new.lemma_before_a_chain.Goals as goal

pub returns : goal.returns
returns c = record { chains = ((λ full. record { exact = one_is_end _ refl refl; new = one_is_left_open _ refl }), tt); none_empty = refl }
