use Rattle.std.proofs.Common.{◌-◌}
use Rattle.mono_dynamic.proofs.Followed.{IsGrowing}
use Rattle.mono_dynamic.proofs.reached_nodes.ReachedNodes.grow.Given as goal

abbrev pub invariant-loop-head : goal.invariant-loop-head
invariant-loop-head l = IsGrowing l.graph l.part l.stamp l.places l.fn.self l.self l.head

abbrev pub decreases-loop-head : goal.decreases-loop-head
decreases-loop-head l = l.fn.self.nodes - l.head
