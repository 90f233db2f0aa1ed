use Rattle.std.proofs.Common.{[], ◌∷◌, refl, pos}
use Rattle.mono_steps.proofs.WorkedNew.{one_is_left_open}
use Rattle.mono_rows.proofs.steps.clause_of_a_lemma.Goals as goal

pub returns : goal.returns
returns c = record { chains = ((λ full. record { exact = record { named = refl; end = pos 1 ∷ []; is_end = refl; same = λ l. refl }; new = one_is_left_open _ refl }), tt); none_empty = refl }
