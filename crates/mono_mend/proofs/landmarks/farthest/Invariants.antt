use Rattle.std.proofs.Common.{◌<◌, length}
use Rattle.mono_mend.proofs.landmarks.farthest.Given as goal

abbrev pub invariant-loop-at : goal.invariant-loop-at
invariant-loop-at l = l.node < length l.one
