use Rattle.std.proofs.Common.{take, map}
use Rattle.mono_graph.specs.Digraph.{edge_at}
use Rattle.mono_graph.proofs.Prefixes.{Cleared}
use Rattle.mono_flows.proofs.node_sums.NodeSums.clear.Given as goal

abbrev pub invariant-loop-amount : goal.invariant-loop-amount
invariant-loop-amount l = record {
  leaving : Cleared 0 l.fn.self.leaving.items l.self.leaving.items (map (λ a. (edge_at l.graph a.edge).from) (take l.amount-index l.amounts));
  entering : Cleared 0 l.fn.self.entering.items l.self.entering.items (map (λ a. (edge_at l.graph a.edge).to) (take l.amount-index l.amounts));
}
