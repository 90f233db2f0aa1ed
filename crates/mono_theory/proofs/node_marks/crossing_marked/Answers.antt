use Rattle.std.proofs.Common.{◌≡◌, ◌++◌, List, ℕ, get_or, ap, ◌∙◌, append_assoc}
use Rattle.mono_theory.specs.Resting.{absent_from, absent_into, absent_joining}
use Rattle.mono_theory.proofs.AtEachNode.{one_node_more, every_node}
use Rattle.mono_theory.proofs.node_marks.crossing_marked.Goals as goal

pub push_joining-requires-clause-places : goal.push_joining-requires-clause-places
push_joining-requires-clause-places c = c.leaving.ensures.known

-- what leaves the node, and what enters it
both : (before left after leaving entering : List ℕ) → left ≡ before ++ leaving → after ≡ left ++ entering → after ≡ before ++ (leaving ++ entering)
both before left after leaving entering out into = into ∙ ap (λ (xs : List ℕ). xs ++ entering) out ∙ append_assoc before leaving entering

pub loop-node-preserved : goal.loop-node-preserved
loop-node-preserved c =
    let g = c.args.graph.now in
    let P = c.args.part.now in
    let us : List ℕ = c.args.nodes.now in
    let u : ℕ = get_or us c.loop-node.node-index 0 in
    one_node_more (λ v. absent_from g P us v ++ absent_into g P us v) us c.loop-node.node-index c.loop-node.edges.items c.push_joining-in-loop-node.new.edges.items c.loop-node-test.true c.loop-node.invariant
    (both c.loop-node.edges.items c.push_joining.new.edges.items c.push_joining-in-loop-node.new.edges.items (absent_from g P us u) (absent_into g P us u)
    (c.in_ok-push_joining.ensures us c.requires.marked ∙ ap (λ (ks : List ℕ). c.loop-node.edges.items ++ absent_joining g P us ks) c.leaving.ensures.places)
    (c.in_ok-push_joining-2.ensures us c.requires.marked ∙ ap (λ (ks : List ℕ). c.push_joining.new.edges.items ++ absent_joining g P us ks) c.entering.ensures.places))

pub returns : goal.returns
returns c =
    let g = c.args.graph.now in
    let P = c.args.part.now in
    let us : List ℕ = c.args.nodes.now in
    every_node (λ v. absent_from g P us v ++ absent_into g P us v) us c.loop-node.node-index c.loop-node.edges.items c.loop-node-test.false c.loop-node.invariant
