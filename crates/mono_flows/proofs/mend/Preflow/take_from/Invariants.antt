use Rattle.mono_flows.specs.Mending.{IsPreflow}
use Rattle.mono_flows.proofs.mend.Preflow.take_from.Given as goal

abbrev pub invariant-loop-place : goal.invariant-loop-place
invariant-loop-place l = IsPreflow l.network.graph.now l.self
