use Rattle.mono_dynamic.proofs.CostLinks.{IsBackAt}
use Rattle.mono_dynamic.proofs.cost_table.CostTable.given_after.Given as goal

abbrev pub invariant-loop-last : goal.invariant-loop-last
invariant-loop-last l = IsBackAt l.self-inside.labels.items l.self-inside.changes.items l.kept l.node l.label l.last

abbrev pub decreases-loop-last : goal.decreases-loop-last
decreases-loop-last l = l.last
