use Rattle.std.proofs.Common.{◌≡◌, ◌++◌, take, drop}
use Rattle.mono_answer.specs.Versions.{turned_numbers}
use Rattle.mono_check.proofs.turning.turn.Given as goal

abbrev pub invariant-loop-place : goal.invariant-loop-place
invariant-loop-place l = l.numbers ≡ turned_numbers l.own (take l.place l.initial.numbers) ++ drop l.place l.initial.numbers
