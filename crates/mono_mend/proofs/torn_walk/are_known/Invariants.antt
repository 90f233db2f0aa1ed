use Rattle.std.proofs.Common.{◌<◌, take, All}
use Rattle.mono_mend.proofs.torn_walk.are_known.Given as goal

abbrev pub invariant-loop-place : goal.invariant-loop-place
invariant-loop-place l = All (λ k. k < l.fn.count) (take l.place-index l.places)
