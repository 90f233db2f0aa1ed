use Rattle.std.proofs.Common.{◌≡◌, drop}
use Rattle.mono_graph.specs.Flows.{amount_at}
use Rattle.mono_flow.proofs.flows.amount_of.Given as goal

abbrev pub invariant-loop-amount : goal.invariant-loop-amount
invariant-loop-amount l = amount_at l.amounts l.number ≡ amount_at (drop l.amount-index l.amounts) l.number
