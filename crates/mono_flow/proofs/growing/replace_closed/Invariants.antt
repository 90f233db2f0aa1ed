use Rattle.std.proofs.Common.{◌-◌, length}
use Rattle.mono_flow.proofs.ReplacedEdges.{IsReplacing}
use Rattle.mono_flow.proofs.growing.replace_closed.Given as goal

abbrev pub invariant-loop-place : goal.invariant-loop-place
invariant-loop-place l = IsReplacing l.graph l.part l.marks l.fn.rest.items l.fn.fresh.items l.rest.items l.fresh.items l.place

abbrev pub decreases-loop-place : goal.decreases-loop-place
decreases-loop-place l = length l.rest.items - l.place
