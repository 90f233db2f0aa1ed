use Rattle.std.proofs.Common.{◌≤◌, length}
use Rattle.mono_mend.proofs.torn_walk.TornWalk.behind_gap.Given as goal

abbrev pub invariant-loop-at : goal.invariant-loop-at
invariant-loop-at l = l.at ≤ length l.self.edges.now

abbrev pub decreases-loop-at : goal.decreases-loop-at
decreases-loop-at l = l.at
