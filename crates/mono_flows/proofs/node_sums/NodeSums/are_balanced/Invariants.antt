use Rattle.std.proofs.Common.{take}
use Rattle.std.specs.Prelude.{IsTrue}
use Rattle.std.specs.List.{list_all}
use Rattle.mono_flows.specs.Listed.{has_balanced_ends}
use Rattle.mono_flows.proofs.node_sums.NodeSums.are_balanced.Given as goal

abbrev pub invariant-loop-amount : goal.invariant-loop-amount
invariant-loop-amount l = IsTrue (list_all (has_balanced_ends l.network.graph.now l.self.leaving.items l.self.entering.items l.network.source l.network.sink) (take l.amount-index l.amounts))
