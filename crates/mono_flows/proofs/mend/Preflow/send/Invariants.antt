use Rattle.mono_flows.specs.Mending.{IsPreflow}
use Rattle.mono_flows.specs.Visits.{IsFlowSearch}
use Rattle.mono_flows.proofs.mend.Preflow.send.Given as goal

abbrev pub invariant-loop-left : goal.invariant-loop-left
invariant-loop-left l = record {
  flow : IsPreflow l.network.graph.now l.self;
  search : IsFlowSearch l.network.graph.now.nodes l.search;
}

abbrev pub decreases-loop-left : goal.decreases-loop-left
decreases-loop-left l = l.left
