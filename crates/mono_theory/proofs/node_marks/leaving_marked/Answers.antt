use Rattle.std.proofs.Common.{◌++◌, List, ℕ, ap, ◌∙◌}
use Rattle.mono_theory.specs.Resting.{absent_from, absent_joining}
use Rattle.mono_theory.proofs.AtEachNode.{one_node_more, every_node}
use Rattle.mono_theory.proofs.node_marks.leaving_marked.Goals as goal

pub push_joining-requires-clause-places : goal.push_joining-requires-clause-places
push_joining-requires-clause-places c = c.leaving.ensures.known

pub loop-node-preserved : goal.loop-node-preserved
loop-node-preserved c =
    let g = c.args.graph.now in
    let P = c.args.part.now in
    one_node_more (absent_from g P c.args.nodes.now) c.args.nodes.now c.loop-node.node-index c.loop-node.edges.items c.push_joining.new.edges.items c.loop-node-test.true c.loop-node.invariant
    (c.in_ok-push_joining.ensures c.args.nodes.now c.requires.marked ∙ ap (λ (ks : List ℕ). c.loop-node.edges.items ++ absent_joining g P c.args.nodes.now ks) c.leaving.ensures.places)

pub returns : goal.returns
returns c =
    every_node (absent_from c.args.graph.now c.args.part.now c.args.nodes.now) c.args.nodes.now c.loop-node.node-index c.loop-node.edges.items c.loop-node-test.false c.loop-node.invariant
