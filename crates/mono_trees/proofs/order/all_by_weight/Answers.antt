use Rattle.std.proofs.Common.{◌∙◌, ap}
use Rattle.std.specs.List.{range_with_len}
use Rattle.mono_trees.proofs.Ordering.{fits_all, order_all}
use Rattle.mono_trees.proofs.order.all_by_weight.Goals as goal

pub by_weight-requires : goal.by_weight-requires
by_weight-requires c = fits_all c.args.graph.now c.in_ok-all.all.items c.deref.result.now c.deref.ensures.value
    (c.in_ok-all.ensures ∙ ap (range_with_len 0) c.edge_count.ensures)

pub returns-clause-permutation : goal.returns-clause-permutation
returns-clause-permutation c = order_all c.args.graph.now c.in_ok-all.all.items c.deref.result.now c.in_ok-order.order.items c.deref.ensures.value
    (c.in_ok-all.ensures ∙ ap (range_with_len 0) c.edge_count.ensures) c.in_ok-order.ensures.permutation
