use Rattle.std.proofs.Common.{refl}
use Rattle.std.specs.Fmt.{digits}
use Rattle.mono_answer.proofs.worked.printed_answers.Goals as goal

pub returns : goal.returns
unfolding digits
returns c = record { model = refl; no_variables = refl; progress = refl; refutation = refl; flow = refl; items = refl }
