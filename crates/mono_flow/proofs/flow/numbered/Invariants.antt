use Rattle.std.proofs.Common.{◌≡◌, take}
use Rattle.mono_flow.specs.Flowing.{numbered}
use Rattle.mono_flow.proofs.flow.numbered.Given as goal

abbrev pub invariant-loop-amount : goal.invariant-loop-amount
invariant-loop-amount l = l.named.items ≡ numbered l.graph (take l.amount-index l.amounts)
