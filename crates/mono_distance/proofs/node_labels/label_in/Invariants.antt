use Rattle.std.proofs.Common.{◌≡◌, drop}
use Rattle.mono_distance.specs.Labels.{entry_in}
use Rattle.mono_distance.proofs.node_labels.label_in.Given as goal

abbrev pub invariant-loop-label : goal.invariant-loop-label
invariant-loop-label l = entry_in l.labels l.node ≡ entry_in (drop l.label-index l.labels) l.node
