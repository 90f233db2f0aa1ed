use Rattle.std.proofs.Common.{arith}
use Rattle.mono_trees.proofs.Ordering.{order_kept}
use Rattle.mono_trees.proofs.unbridged.collect_by_kept.Goals as goal

pub collect-requires-clause-order : goal.collect-requires-clause-order
collect-requires-clause-order c = order_kept c.args.graph.now c.args.order.now c.as_slice-places.result.now c.as_slice-places.ensures.items c.as_slice-places.ensures.order (omega arith)
