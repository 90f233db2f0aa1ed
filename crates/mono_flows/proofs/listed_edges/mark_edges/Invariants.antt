use Rattle.mono_flows.proofs.ListedSums.{AreMarked}
use Rattle.mono_flows.proofs.listed_edges.mark_edges.Given as goal

abbrev pub invariant-loop-amount : goal.invariant-loop-amount
invariant-loop-amount l = AreMarked l.network.graph.now l.network.part.now l.listed.items l.amounts l.amount-index
