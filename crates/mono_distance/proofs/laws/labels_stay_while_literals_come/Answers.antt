use Rattle.mono_distance.proofs.KnownLabels.{labels_stay}
use Rattle.mono_distance.proofs.laws.labels_stay_while_literals_come.Goals as goal

pub returns : goal.returns
returns c = labels_stay
