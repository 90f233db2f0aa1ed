use Rattle.mono_flow.proofs.Needed.{AreNeededSoFar}
use Rattle.mono_flow.proofs.flow.needed.Given as goal

abbrev pub invariant-loop-place : goal.invariant-loop-place
invariant-loop-place l = AreNeededSoFar l.graph l.slack l.absent l.named.items l.left l.place-index
