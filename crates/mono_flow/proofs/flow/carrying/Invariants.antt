use Rattle.std.proofs.Common.{◌≡◌, take}
use Rattle.mono_flow.specs.Flowing.{carrying}
use Rattle.mono_flow.proofs.flow.carrying.Given as goal

abbrev pub invariant-loop-amount : goal.invariant-loop-amount
invariant-loop-amount l = l.edges.items ≡ carrying (take l.amount-index l.amounts)
