use Rattle.std.proofs.Common.{◌<◌, All, length, take}
use Rattle.mono_flow.proofs.kept_flows.are_known.Given as goal

abbrev pub invariant-loop-amount : goal.invariant-loop-amount
invariant-loop-amount l = All (λ a. a.edge < length l.graph.edges) (take l.amount-index l.amounts)
