use Rattle.mono_flows.proofs.CutWeights.{Weighed}
use Rattle.mono_flows.proofs.cut.weight_out_of.Given as goal

abbrev pub invariant-loop-node : goal.invariant-loop-node
invariant-loop-node l = Weighed l.network.graph.now l.network.part.now l.inside l.counted.items l.nodes l.node-index l.weight
