use Rattle.std.proofs.Common.{◌≡◌, ◌++◌, take, map, decimal}
use Rattle.mono_answer.specs.Behind.{behind}
use Rattle.mono_answer.proofs.print.push_clause_numbers.Given as goal

abbrev pub invariant-loop-number : goal.invariant-loop-number
invariant-loop-number l = l.out.items ≡ l.initial.out.items ++ behind (map decimal (take l.number-index l.numbers))
