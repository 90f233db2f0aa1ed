use Rattle.std.proofs.Common.{◌≤◌, length, subst}
use Rattle.mono_dynamic.specs.Reached.{Reached}
use Rattle.mono_dynamic.proofs.Listed.{few_reached}
use Rattle.mono_dynamic.proofs.reached_nodes.ReachedNodes.count.Goals as goal

pub returns-clause-few : goal.returns-clause-few
returns-clause-few c = subst (λ (r : Reached). length r.arrivals ≤ r.nodes) c.self.view_is (few_reached c.self.inside.positions.items c.self.inside.arrivals.items c.self.invariant.placed)
