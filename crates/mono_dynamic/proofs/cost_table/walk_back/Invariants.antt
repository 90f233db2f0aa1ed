use Rattle.mono_dynamic.proofs.CostWalks.{IsCostBack}
use Rattle.mono_dynamic.proofs.cost_table.walk_back.Given as goal

abbrev pub invariant-loop-at : goal.invariant-loop-at
invariant-loop-at l = IsCostBack l.changes l.fn.last l.at l.walk.items

abbrev pub decreases-loop-at : goal.decreases-loop-at
decreases-loop-at l = l.at
