use Rattle.std.proofs.Common.{arith}
use Rattle.mono_dynamic.proofs.Followed.{growing, growing_more}
use Rattle.mono_dynamic.proofs.Exact.{grown_reached, along_grown}
use Rattle.mono_dynamic.proofs.reached_nodes.ReachedNodes.grow.Goals as goal

pub loop-head-init : goal.loop-head-init
loop-head-init c = growing c.args.graph.now c.args.part.now c.args.stamp c.args.places.now c.args.self.now c.follow.new.self c.count-head.result c.count-head.ensures.count c.follow.ensures

pub loop-head-preserved : goal.loop-head-preserved
loop-head-preserved c =
    growing_more c.args.graph.now c.args.part.now c.args.stamp c.args.places.now c.args.self.now c.loop-head.self c.follow-in-loop-head.new.self c.loop-head.head c.node_at-node.result c.leaving.result.now
    c.loop-head.invariant (let n = c.count.ensures.count in omega arith) c.node_at-node.ensures.node c.leaving.ensures.places c.follow-in-loop-head.ensures

pub returns-clause-reached : goal.returns-clause-reached
returns-clause-reached c = λ P r grown.
    grown_reached c.args.graph.now P c.args.part.now c.args.stamp c.args.places.now c.args.self.now c.loop-head.self c.loop-head.head c.loop-head.invariant (let n = c.count.ensures.count in omega arith) r grown

pub returns-clause-along : goal.returns-clause-along
returns-clause-along c = λ parts n r grows.
    along_grown c.args.graph.now parts n c.args.stamp c.args.self.now.source c.args.self.now.arrivals c.loop-head.self.arrivals c.args.part.now c.args.places.now r grows
    c.loop-head.invariant.earlier c.loop-head.invariant.stamps
    (λ P r grown. grown_reached c.args.graph.now P c.args.part.now c.args.stamp c.args.places.now c.args.self.now c.loop-head.self c.loop-head.head c.loop-head.invariant (let n = c.count.ensures.count in omega arith) r grown)
