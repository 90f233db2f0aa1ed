use Rattle.std.proofs.Common.{refl}
use Rattle.std.specs.Fmt.{digits}
use Rattle.mono_answer.proofs.worked.printed_versions.Goals as goal

pub returns : goal.returns
unfolding digits
returns c = record { two = refl; one = refl; model = refl; order_kept = refl; earlier = refl; own = refl; zero = refl; behind_a_lemma = refl; within = refl; not_within = refl; within_one = refl }
