use Rattle.std.proofs.Common.{◌≡◌, ◌++◌, take, codes, decimal, flat_map}
use Rattle.mono_text.proofs.print.push_numbers.Given as goal

abbrev pub invariant-loop-number : goal.invariant-loop-number
invariant-loop-number l = l.out.items ≡ l.initial.out.items ++ flat_map (λ n. codes " " ++ decimal n) (take l.number-index l.numbers)
