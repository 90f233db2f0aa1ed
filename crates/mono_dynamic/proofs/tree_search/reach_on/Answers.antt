use Rattle.mono_dynamic.proofs.SearchTrees.{searching_more}
use Rattle.mono_dynamic.proofs.tree_search.reach_on.Goals as goal

pub loop-found-preserved : goal.loop-found-preserved
loop-found-preserved c =
    searching_more c.args.graph.now c.args.part.now c.args.found.now.source c.loop-found.head c.node_at-next.result c.leaving.result.now c.loop-found.found c.follow.new.self
    c.loop-found.invariant (c.is_over.ensures.more c.loop-found-test.true) c.node_at-next.ensures.node c.leaving.ensures.places c.follow.ensures
