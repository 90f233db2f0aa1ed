use Rattle.std.proofs.Common.{refl}
use Rattle.mono_gnf.specs.Statements.{statement_of}
use Rattle.mono_rows.proofs.inputs.nodes_of_each_form.Goals as goal

pub returns : goal.returns
unfolding statement_of
returns c = record { edge_to = refl; edge_from_and_to = refl; reach_from = refl; reach_to = refl; steps_from = refl; steps_to = refl; distance_from = refl; distance_to = refl; flow_from = refl; flow_to = refl; reach_same = refl; steps_same = refl; distance_same = refl; flow_same = refl; last_nodes = refl; last_nodes_of_flows = refl }
