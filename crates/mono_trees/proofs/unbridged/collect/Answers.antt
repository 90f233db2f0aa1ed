use Rattle.std.proofs.Common.{◌∙◌, ap, sym, arith}
use Rattle.mono_trees.proofs.Ordering.{fits_order}
use Rattle.mono_trees.proofs.Collecting.{collecting_as, collecting_none, collecting_skip, collecting_take, collecting_pass, collecting_down, collecting_done}
use Rattle.mono_trees.proofs.unbridged.collect.Goals as goal
use Rattle.mono_trees.proofs.unbridged.collect.Goals.{then-not-has+else-edge-heaviest+in_ok-at+then-not-are_joined+in_ok-push, then-not-has+else-edge-heaviest+in_ok-at+else-not-are_joined, else-not-has}

pub loop-place-init : goal.loop-place-init
loop-place-init c = collecting_none c.args.graph.now c.args.part.now c.args.tree.now c.args.order.now c.new-edges.result.items c.reset.new.self (c.reset.ensures.len ∙ c.requires.nodes) c.reset.ensures.tells c.new-edges.ensures.items

pub has-requires : goal.has-requires
has-requires c = let a = fits_order c.args.graph.now c.args.order.now c.requires.order c.loop-place.place-index 0 (omega arith) in omega (arith, a, c.requires.part)

pub edge-edge-requires : goal.edge-edge-requires
edge-edge-requires c = fits_order c.args.graph.now c.args.order.now c.requires.order c.loop-place.place-index 0 (omega arith)

pub loop-place-preserved : goal.loop-place-preserved
loop-place-preserved c =
    let g = c.args.graph.now in
    let P = c.args.part.now in
    let tree = c.args.tree.now in
    let order = c.args.order.now in
    elim c.if-not-has.branch [
      | then-not-has+else-edge-heaviest+in_ok-at+then-not-are_joined+in_ok-push w ↦ collecting_as g P tree order _ _ _ _ _ _ _ _ _ w.heaviest-is w.at-is (ap (λ v. v.items) w.edges-is ∙ w.in_ok-push.ensures.items) w.components-is
          (collecting_take g P tree order c.loop-place.edges.items c.loop-place.components _ c.loop-place.place-index c.loop-place.at _ c.loop-place.heaviest w.edge-edge.result w.are_joined.result c.loop-place-test.true
          (fits_order g order c.requires.order c.loop-place.place-index 0 (omega arith)) (sym c.has.ensures ∙ w.if-not-has.true) w.edge-edge.ensures.edge w.edge-edge.ensures.from w.edge-edge.ensures.to c.requires.tree_rises
          w.in_ok-at.ensures.swept w.are_joined.ensures w.if-not-are_joined.true c.loop-place.invariant)
      | then-not-has+else-edge-heaviest+in_ok-at+else-not-are_joined w ↦ collecting_as g P tree order _ _ _ _ _ _ _ _ _ w.heaviest-is w.at-is (ap (λ v. v.items) w.edges-is) w.components-is
          (collecting_pass g P tree order c.loop-place.edges.items c.loop-place.components _ c.loop-place.place-index c.loop-place.at _ c.loop-place.heaviest w.edge-edge.result w.are_joined.result c.loop-place-test.true
          w.edge-edge.ensures.edge w.edge-edge.ensures.from w.edge-edge.ensures.to c.requires.tree_rises
          w.in_ok-at.ensures.swept w.are_joined.ensures w.if-not-are_joined.false c.loop-place.invariant)
      | else-not-has w ↦ collecting_as g P tree order _ _ _ _ _ _ _ _ _ w.heaviest-is w.at-is (ap (λ v. v.items) w.edges-is) w.components-is
          (collecting_skip g P tree order c.loop-place.edges.items c.loop-place.components c.loop-place.place-index c.loop-place.at c.loop-place.heaviest c.loop-place-test.true
          (sym c.has.ensures ∙ w.if-not-has.false) c.loop-place.invariant)
    ]

pub returns-then-edge-heaviest-clause-rising : goal.returns-then-edge-heaviest-clause-rising
returns-then-edge-heaviest-clause-rising c = λ rising. absurd (collecting_down c.args.graph.now c.args.part.now c.args.tree.now c.args.order.now c.loop-place.edges.items c.loop-place.components c.loop-place.place-index c.loop-place.at
    c.loop-place.heaviest _ (omega arith) (ap (λ e. e.weight) c.edge-edge.ensures.edge) (omega arith) c.loop-place.invariant rising)

pub returns-clause-unbridged : goal.returns-clause-unbridged
returns-clause-unbridged c = collecting_done c.args.graph.now c.args.part.now c.args.tree.now c.args.order.now c.loop-place.edges.items c.loop-place.components c.loop-place.place-index c.loop-place.at c.loop-place.heaviest c.requires.order (omega arith) c.loop-place.invariant
