use Rattle.std.proofs.Common.{◌<◌, length}
use Rattle.mono_flows.specs.Mending.{IsPreflow}
use Rattle.mono_flows.proofs.mend.Preflow.carry.Given as goal

abbrev pub invariant-loop-at : goal.invariant-loop-at
invariant-loop-at l = record {
  flow : IsPreflow l.network.graph.now l.self;
  inside : l.at < length l.path;
}

abbrev pub decreases-loop-at : goal.decreases-loop-at
decreases-loop-at l = l.at
