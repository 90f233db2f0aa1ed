use Rattle.std.proofs.Common.{refl}
use Rattle.mono_gnf.specs.Statements.{statement_of}
use Rattle.mono_rows.proofs.inputs.bounds_of_each_form.Goals as goal

pub returns : goal.returns
unfolding statement_of
returns c = record { steps = refl; fewer_steps = refl; distance = refl; smaller_distance = refl; flow = refl; greater_flow = refl; lighter_tree = refl; greatest = refl }
