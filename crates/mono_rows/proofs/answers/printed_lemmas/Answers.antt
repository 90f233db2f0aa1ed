use Rattle.std.proofs.Common.{refl}
use Rattle.std.specs.Fmt.{digits}
use Rattle.mono_rows.proofs.answers.printed_lemmas.Goals as goal

pub returns : goal.returns
unfolding digits
returns c = record { path = refl; cut = refl; label = refl; flow = refl; flow_cut = refl; tree = refl; split = refl; least = refl; cycle = refl; order = refl; empty_path = refl; empty_label = refl; empty_order = refl }
