use Rattle.std.proofs.Common.{◌≡◌, ◌++◌, take}
use Rattle.mono_answer.specs.Printed.{numbers_text}
use Rattle.mono_answer.specs.Behind.{behind}
use Rattle.mono_answer.proofs.print.push_lits.Given as goal

abbrev pub invariant-loop-lit : goal.invariant-loop-lit
invariant-loop-lit l = l.out.items ≡ l.initial.out.items ++ behind (numbers_text (take l.lit-index l.lits))
