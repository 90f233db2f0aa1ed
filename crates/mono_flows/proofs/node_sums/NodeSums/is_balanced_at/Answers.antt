use Rattle.std.proofs.Common.{arith}
use Rattle.std.proofs.lemmas.Grind.{common_steps}
use Rattle.mono_flows.proofs.node_sums.NodeSums.is_balanced_at.Goals as goal

pub returns-else-node-network-2 : goal.returns-else-node-network-2
returns-else-node-network-2 c = grind (arith, common_steps)
