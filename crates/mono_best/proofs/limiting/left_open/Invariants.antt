use Rattle.std.proofs.Common.{◌≡◌, length}
use Rattle.mono_best.proofs.limiting.left_open.Given as goal

abbrev pub invariant-loop-place : goal.invariant-loop-place
invariant-loop-place l = length l.flags.items ≡ l.place
