use Rattle.std.proofs.Common.{◌≡◌, ℕ, ◌+◌, ◌-◌, List, slice_index_or, refl, sym, ap, subst, arith}
use Rattle.mono_graph.specs.declared.edge.Edge.{Edge}
use Rattle.mono_graph.specs.Digraph.{edge_at}
use Rattle.mono_flow.proofs.Needed.{AreNeededSoFar, so_far_left, so_far_named, so_far_all, so_far_each}
use Rattle.mono_flow.proofs.flow.needed.Goals as goal

pub loop-place-preserved-then-edge-left : goal.loop-place-preserved-then-edge-left
loop-place-preserved-then-edge-left c =
    let g = c.args.graph.now in
    let k : ℕ = slice_index_or c.args.absent.now c.loop-place.place-index 0 in
    let weight : c.edge-edge.result.weight ≡ (edge_at g k).weight = ap (λ (e : Edge). e.weight) c.edge-edge.ensures.edge in
    subst (λ (w : ℕ). AreNeededSoFar g c.args.slack c.args.absent.now c.loop-place.named.items (c.loop-place.left - w) (c.loop-place.place-index + 1)) (sym weight)
    (so_far_left k c.loop-place-test.true refl (let le = c.if-edge-left.true in omega (arith, weight, le)) c.loop-place.invariant)

pub loop-place-preserved : goal.loop-place-preserved
loop-place-preserved c =
    let g = c.args.graph.now in
    let k : ℕ = slice_index_or c.args.absent.now c.loop-place.place-index 0 in
    let weight : c.edge-edge.result.weight ≡ (edge_at g k).weight = ap (λ (e : Edge). e.weight) c.edge-edge.ensures.edge in
    subst (λ (named : List ℕ). AreNeededSoFar c.args.graph.now c.args.slack c.args.absent.now named c.loop-place.left (c.loop-place.place-index + 1)) (sym c.in_ok-push.ensures.items)
    (so_far_named k c.loop-place-test.true refl (let more = c.if-edge-left.false in omega (arith, weight, more)) c.loop-place.invariant)

pub returns-clause-others : goal.returns-clause-others
returns-clause-others c = so_far_all (let past = c.loop-place-test.false in omega (arith, past)) c.loop-place.invariant

pub returns-clause-each : goal.returns-clause-each
returns-clause-each c = so_far_each (let past = c.loop-place-test.false in omega (arith, past)) c.loop-place.invariant c.requires.distinct
