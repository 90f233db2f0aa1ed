use Rattle.std.proofs.Common.{◌≡◌, true, false}
use Rattle.mono_search_rows.proofs.worked_orders.edges_in_an_order.Goals as goal

pub returns-clause-more_edges : goal.returns-clause-more_edges
returns-clause-more_edges c = λ h. let e : true ≡ false = h.kept.part 1 in cc
