use Rattle.mono_dynamic.proofs.SearchTrees.{IsAdding}
use Rattle.mono_dynamic.proofs.tree_search.add_way.Given as goal

abbrev pub invariant-loop-left : goal.invariant-loop-left
invariant-loop-left l = IsAdding l.found.arrivals l.way l.left l.fn.tree l.tree

abbrev pub decreases-loop-left : goal.decreases-loop-left
decreases-loop-left l = l.left
