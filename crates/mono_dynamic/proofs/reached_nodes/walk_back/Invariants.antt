use Rattle.mono_dynamic.proofs.WalkBack.{IsWayBack}
use Rattle.mono_dynamic.proofs.reached_nodes.walk_back.Given as goal

abbrev pub invariant-loop-at : goal.invariant-loop-at
invariant-loop-at l = IsWayBack l.source l.arrivals l.fn.last l.at l.walk.items

abbrev pub decreases-loop-at : goal.decreases-loop-at
decreases-loop-at l = l.at
