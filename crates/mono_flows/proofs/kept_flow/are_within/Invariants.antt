use Rattle.std.proofs.Common.{◌≤◌, All, take}
use Rattle.mono_flows.proofs.kept_flow.are_within.Given as goal

abbrev pub invariant-loop-amount : goal.invariant-loop-amount
invariant-loop-amount l = All (λ a. a.amount ≤ l.most) (take l.amount-index l.amounts)
