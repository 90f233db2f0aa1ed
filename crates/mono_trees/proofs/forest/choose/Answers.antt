use Rattle.mono_trees.proofs.Growing.{choose_skip, choose_take, grown_as}
use Rattle.std.proofs.Common.{refl}
use Rattle.mono_trees.proofs.forest.choose.Goals as goal

pub returns-then-are_joined-clause-grown : goal.returns-then-are_joined-clause-grown
returns-then-are_joined-clause-grown c = λ done grown up. choose_skip c.args.graph.now done c.args.chosen.now.items c.args.components.now c.args.place c.edge-edge.result c.are_joined.result
    c.edge-edge.ensures.edge c.edge-edge.ensures.from c.edge-edge.ensures.to c.are_joined.ensures c.if-are_joined.true grown up

pub returns-clause-grown : goal.returns-clause-grown
returns-clause-grown c = λ done grown up. grown_as _ _ _ _ _ _ c.in_ok-push.ensures.items refl
    (choose_take c.args.graph.now done c.args.chosen.now.items c.args.components.now c.join.new.self c.args.place c.edge-edge.result c.are_joined.result
    c.edge-edge.ensures.edge c.edge-edge.ensures.from c.edge-edge.ensures.to c.are_joined.ensures c.if-are_joined.false c.in_ok-join.ensures.len c.in_ok-join.ensures.tells grown)
