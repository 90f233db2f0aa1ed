use Rattle.std.proofs.Common.{◌≡◌, ◌++◌, take, map, decimal}
use Rattle.mono_answer.specs.Behind.{behind}
use Rattle.mono_answer.specs.Versions.{turned_numbers}
use Rattle.mono_answer.proofs.turned.push_turned_numbers.Given as goal

abbrev pub invariant-loop-number : goal.invariant-loop-number
invariant-loop-number l = l.out.items ≡ l.initial.out.items ++ behind (map decimal (turned_numbers l.own (take l.number-index l.numbers)))
