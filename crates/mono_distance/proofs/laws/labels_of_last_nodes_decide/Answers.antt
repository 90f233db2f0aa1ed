use Rattle.mono_distance.proofs.KnownLabels.{labels_decide}
use Rattle.mono_distance.proofs.laws.labels_of_last_nodes_decide.Goals as goal

pub returns : goal.returns
returns c = labels_decide
