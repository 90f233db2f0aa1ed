use Rattle.std.proofs.Common.{ℕ, List, sym, subst}
use Rattle.mono_dynamic.specs.Arrivals.{arrival_at}
use Rattle.mono_dynamic.proofs.WalkBack.{IsWayBack, way_none, way_more, way_whole}
use Rattle.mono_dynamic.proofs.reached_nodes.walk_back.Goals as goal

pub loop-at-init : goal.loop-at-init
loop-at-init c = subst (λ (ks : List ℕ). IsWayBack c.args.source c.args.arrivals.now c.args.last c.args.last ks) (sym c.new-walk.ensures.items) (way_none c.args.source c.args.arrivals.now c.args.last c.requires.last)

pub loop-at-preserved : goal.loop-at-preserved
loop-at-preserved c =
    subst (λ (ks : List ℕ). IsWayBack c.args.source c.args.arrivals.now c.args.last (arrival_at c.args.arrivals.now c.loop-at.at).before ks) (sym c.in_ok-push.ensures.items)
    (way_more c.args.source c.args.arrivals.now c.args.last c.loop-at.at c.loop-at.walk.items c.requires.ordered c.loop-at-test.true c.loop-at.invariant)

pub returns : goal.returns
returns c = way_whole c.args.source c.args.arrivals.now c.args.last c.loop-at.at c.loop-at.walk.items c.reverse.new.self.items c.requires.ordered c.loop-at-test.false c.reverse.ensures.items c.loop-at.invariant
