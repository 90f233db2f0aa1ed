use Rattle.std.proofs.Common.{map, take}
use Rattle.mono_bounds.specs.DueNodes.{PutsNodes}
use Rattle.mono_theory.proofs.sure_rows.put_due.Given as goal

abbrev pub invariant-loop-change : goal.invariant-loop-change
invariant-loop-change g l = PutsNodes l.lasts.keys (map g.R.Change.AtNode.node (take l.change-index l.change-items)) l.fn.due.listed l.due.listed
