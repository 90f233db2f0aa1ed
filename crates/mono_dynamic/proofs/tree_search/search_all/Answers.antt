use Rattle.std.proofs.Common.{ℕ, subst, ◌∙◌}
use Rattle.mono_graph.proofs.Membership.{has_get_or}
use Rattle.mono_dynamic.specs.SearchTrees.{IsSearching}
use Rattle.mono_dynamic.proofs.SearchTrees.{searched_more, searched_all}
use Rattle.mono_dynamic.proofs.tree_search.search_all.Goals as goal

pub loop-target-preserved : goal.loop-target-preserved
loop-target-preserved c = record {
  searched = searched_more c.args.graph.now c.args.part.now c.args.tree.now.source c.args.targets.now c.loop-target.target-index c.loop-target.followed c.reach_on-followed.result
      c.loop-target.found c.loop-target.tree c.reach_on-followed.new.found c.keep_way.new.tree c.loop-target.invariant.searched c.loop-target-test.true
      (subst (λ (u : ℕ). IsSearching c.args.graph.now c.args.part.now u c.reach_on-followed.result c.reach_on-followed.new.found) c.loop-target.invariant.searched.searching.source c.reach_on-followed.ensures.searching)
      c.reach_on-followed.ensures.over c.keep_way.ensures.way (has_get_or c.args.targets.now c.loop-target.target-index 0 c.loop-target-test.true);
  room = c.keep_way.ensures.room ∙ c.loop-target.invariant.room;
}

pub returns-clause-tree : goal.returns-clause-tree
returns-clause-tree c =
    searched_all c.args.graph.now c.args.part.now c.args.tree.now.source c.args.targets.now c.loop-target.target-index c.loop-target.followed c.loop-target.found c.loop-target.tree c.loop-target-test.false c.loop-target.invariant.searched
