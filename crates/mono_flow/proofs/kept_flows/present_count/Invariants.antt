use Rattle.std.proofs.Common.{◌≤◌}
use Rattle.mono_flow.proofs.kept_flows.present_count.Given as goal

abbrev pub invariant-loop-amount : goal.invariant-loop-amount
invariant-loop-amount l = l.count ≤ l.amount-index
