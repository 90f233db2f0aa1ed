use Rattle.mono_flows.specs.Mending.{IsPreflow}
use Rattle.mono_flows.proofs.mend.Preflow.balance_all.Given as goal

abbrev pub invariant-loop-step : goal.invariant-loop-step
invariant-loop-step l = IsPreflow l.network.graph.now l.self
