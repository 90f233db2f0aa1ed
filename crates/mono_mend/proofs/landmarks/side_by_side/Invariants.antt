use Rattle.std.proofs.Common.{◌≡◌, vec_len}
use Rattle.mono_mend.proofs.landmarks.side_by_side.Given as goal

abbrev pub invariant-loop-at : goal.invariant-loop-at
invariant-loop-at l = vec_len l.by_node ≡ l.at
