use Rattle.mono_flows.specs.Mending.{IsPreflow}
use Rattle.mono_flows.specs.Visits.{IsFlowSearch}
use Rattle.mono_flows.proofs.mend.Preflow.replace_lost.Given as goal

abbrev pub invariant-loop-old : goal.invariant-loop-old
invariant-loop-old l = record {
  flow : IsPreflow l.network.graph.now l.self;
  search : IsFlowSearch l.network.graph.now.nodes l.search;
}
