use Rattle.std.proofs.Common.{rules}
use Rattle.mono_distance.proofs.node_labels.where_within.Goals as goal

pub returns-then-admits : goal.returns-then-admits
returns-then-admits c = search rules
