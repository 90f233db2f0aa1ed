use Rattle.std.specs.List.{count_by}
use Rattle.mono_trail.proofs.Orders.{AssignedLeft}
use Rattle.mono_trail.proofs.order.Order.pick.Given as goal

abbrev pub invariant-loop-var : goal.invariant-loop-var
invariant-loop-var l = AssignedLeft l.fn.self (record { waits = l.self-inside.heap; phases = l.self-inside.phases.items }) l.trail.lits

abbrev pub decreases-loop-var : goal.decreases-loop-var
decreases-loop-var l = count_by (λ b. b) l.self-inside.heap
