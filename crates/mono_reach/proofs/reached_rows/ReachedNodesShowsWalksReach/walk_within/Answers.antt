use Rattle.std.proofs.Common.{ℕ, subst, ◌∙◌, arith}
use Rattle.std.specs.Prelude.{IsTrue}
use Rattle.std.proofs.lemmas.Bool.{le-leb}
use Rattle.mono_graph.specs.Walks.{is_walk}
use Rattle.mono_dynamic.specs.Arrivals.{is_reached, within}
use Rattle.mono_dynamic.proofs.RowsAlong.{free_path, reached_within}
use Rattle.mono_reach.proofs.reached_rows.ReachedNodesShowsWalksReach.walk_within.Goals as goal

pub walk_to-requires-clause-reached : goal.walk_to-requires-clause-reached
walk_to-requires-clause-reached c = reached_within c.in-Some.reached c.args.self.now.arrivals c.args.target.node (c.in-Some.ensures c.in-Some.reached ∙ le-leb c.in-Some.reached c.in-Some.reached (omega arith))

pub returns : goal.returns
returns c = λ g parts n s low measured free right.
    let r = c.args.self.now in
    let ks = c.in_ok-walk.walk.items in
    let P = parts c.args.stamp in
    let now : IsTrue (is_reached (within c.args.stamp r.arrivals) c.args.target.node) = c.in-Some.ensures c.args.stamp ∙ le-leb c.in-Some.reached c.args.stamp c.if-reached-stamp.false in
    let walk = c.in_ok-walk.ensures g P c.args.stamp (right.along.each c.args.stamp low).tree now in
    free_path g P s.node c.args.target.node c.args.target.limit ks free (subst (λ (u : ℕ). IsTrue (is_walk g P u c.args.target.node ks)) right.source walk)
