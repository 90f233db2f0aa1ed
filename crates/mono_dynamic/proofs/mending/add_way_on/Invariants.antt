use Rattle.mono_dynamic.proofs.ComingBack.{IsOnWay}
use Rattle.mono_dynamic.proofs.mending.add_way_on.Given as goal

abbrev pub invariant-loop-at : goal.invariant-loop-at
invariant-loop-at l = IsOnWay l.graph l.part l.first l.at l.behind.arrivals l.fn.tree l.tree

abbrev pub decreases-loop-at : goal.decreases-loop-at
decreases-loop-at l = l.at
