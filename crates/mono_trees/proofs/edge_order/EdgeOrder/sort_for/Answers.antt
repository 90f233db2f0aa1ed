use Rattle.mono_trees.proofs.Ordering.{order_is}
use Rattle.mono_trees.proofs.edge_order.EdgeOrder.sort_for.Goals as goal

pub invariant_of-self : goal.invariant_of-self
invariant_of-self c = order_is c.args.graph.now c.in_ok-self-inside.field-0.items c.in_ok-self-inside.ensures.permutation
