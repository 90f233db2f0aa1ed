use Rattle.mono_distance.proofs.WitnessLabels.{others_are_above}
use Rattle.mono_distance.proofs.node_labels.over_where.Goals as goal

pub returns-then-cut_off : goal.returns-then-cut_off
returns-then-cut_off c = rw c.if-cut_off.true (others_are_above c.args.limit c.others_of.result c.requires c.others_of.ensures.value)
