use Rattle.mono_flows.proofs.ListedSums.{AreAdded}
use Rattle.mono_flows.proofs.node_sums.NodeSums.add_amounts.Given as goal

abbrev pub invariant-loop-amount : goal.invariant-loop-amount
invariant-loop-amount l = record {
  leaving : AreAdded (λ e. e.from) l.graph l.self.leaving.items l.amounts l.amount-index;
  entering : AreAdded (λ e. e.to) l.graph l.self.entering.items l.amounts l.amount-index;
}
