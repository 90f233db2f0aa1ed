use Rattle.std.proofs.Common.{◌≡◌}
use Rattle.std.specs.Prelude.{vec_capacity}
use Rattle.mono_dynamic.proofs.SearchTrees.{AreSearched}
use Rattle.mono_dynamic.proofs.tree_search.search_all.Given as goal

abbrev pub invariant-loop-target : goal.invariant-loop-target
invariant-loop-target l = record {
  searched : AreSearched l.graph l.part l.fn.tree.source l.targets l.target-index l.followed l.found l.tree;
  room : vec_capacity l.way ≡ vec_capacity l.fn.way;
}
