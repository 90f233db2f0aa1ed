use Rattle.mono_graph.proofs.RisingRanks.{is_order-smaller, acyclic-smaller}
use Rattle.mono_graph.proofs.laws.smaller_part_keeps_orders.Goals as goal

pub returns-clause-order : goal.returns-clause-order
returns-clause-order c = is_order-smaller

pub returns-clause-acyclic : goal.returns-clause-acyclic
returns-clause-acyclic c = acyclic-smaller
