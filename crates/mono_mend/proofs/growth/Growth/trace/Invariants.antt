use Rattle.std.proofs.Common.{◌<◌}
use Rattle.mono_mend.proofs.growth.Growth.trace.Given as goal

abbrev pub invariant-loop-step : goal.invariant-loop-step
invariant-loop-step l = l.node < l.graph.nodes
