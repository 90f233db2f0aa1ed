use Rattle.std.proofs.Common.{◌-◌}
use Rattle.mono_dynamic.specs.SearchTrees.{IsSearching}
use Rattle.mono_dynamic.proofs.tree_search.reach_on.Given as goal

abbrev pub invariant-loop-found : goal.invariant-loop-found
invariant-loop-found l = IsSearching l.graph l.part l.fn.found.source l.head l.found

abbrev pub decreases-loop-found : goal.decreases-loop-found
decreases-loop-found l = l.graph.nodes - l.head
