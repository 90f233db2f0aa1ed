use Rattle.std.proofs.Common.{◌≡◌, ◌++◌, take}
use Rattle.mono_answer.specs.Printed.{amounts_text}
use Rattle.mono_answer.specs.Behind.{behind}
use Rattle.mono_answer.proofs.print.push_amounts.Given as goal

abbrev pub invariant-loop-amount : goal.invariant-loop-amount
invariant-loop-amount l = l.out.items ≡ l.initial.out.items ++ behind (amounts_text (take l.amount-index l.amounts))
