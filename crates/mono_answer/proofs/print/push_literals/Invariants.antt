use Rattle.std.proofs.Common.{◌≡◌, ◌++◌, take}
use Rattle.mono_answer.specs.Printed.{numbers_text, literals_from}
use Rattle.mono_answer.specs.Behind.{behind}
use Rattle.mono_answer.proofs.print.push_literals.Given as goal

abbrev pub invariant-loop-place : goal.invariant-loop-place
invariant-loop-place l = l.out.items ≡ l.initial.out.items ++ behind (numbers_text (literals_from 1 (take l.place l.values)))
