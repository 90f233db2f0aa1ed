use Rattle.std.proofs.Common.{◌∙◌, ap, refl, arith}
use Rattle.mono_trees.proofs.Ordering.{fits_order}
use Rattle.mono_trees.proofs.Going.{going_as, going_none, going_skip, going_take, going_down, going_done}
use Rattle.mono_trees.proofs.forest.grow.Goals as goal
use Rattle.mono_trees.proofs.forest.grow.Goals.{then-has+else-weight-heaviest+in_ok-choose, else-has}

pub loop-place-init : goal.loop-place-init
loop-place-init c = going_none c.args.graph.now c.args.part.now c.args.order.now c.new-chosen.result.items c.reset.new.self (c.reset.ensures.len ∙ c.requires.nodes) c.reset.ensures.tells c.new-chosen.ensures.items

pub has-requires : goal.has-requires
has-requires c = let a = fits_order c.args.graph.now c.args.order.now c.requires.order c.loop-place.place-index 0 (omega arith) in omega (arith, a, c.requires.part)

pub edge-weight-requires : goal.edge-weight-requires
edge-weight-requires c = fits_order c.args.graph.now c.args.order.now c.requires.order c.loop-place.place-index 0 (omega arith)

pub choose-requires-clause-place : goal.choose-requires-clause-place
choose-requires-clause-place c = fits_order c.args.graph.now c.args.order.now c.requires.order c.loop-place.place-index 0 (omega arith)

pub loop-place-preserved : goal.loop-place-preserved
loop-place-preserved c =
    elim c.if-has.branch [
      | then-has+else-weight-heaviest+in_ok-choose w ↦ going_as c.args.graph.now c.args.part.now c.args.order.now _ _ _ _ _ _ _ w.heaviest-is (ap (λ v. v.items) w.chosen-is) w.components-is
          (going_take c.args.graph.now c.args.part.now c.args.order.now c.loop-place.chosen.items _ c.loop-place.components _ c.loop-place.place-index c.loop-place.heaviest _ c.has.result c.loop-place-test.true
          c.has.ensures w.if-has.true (ap (λ e. e.weight) w.edge-weight.ensures.edge) (omega (arith, w.if-weight-heaviest.false)) w.in_ok-choose.ensures.grown c.loop-place.invariant)
      | else-has w ↦ going_as c.args.graph.now c.args.part.now c.args.order.now _ _ _ _ _ _ _ w.heaviest-is (ap (λ v. v.items) w.chosen-is) w.components-is
          (going_skip c.args.graph.now c.args.part.now c.args.order.now c.loop-place.chosen.items c.loop-place.components c.loop-place.place-index c.loop-place.heaviest c.has.result c.loop-place-test.true
          c.has.ensures w.if-has.false c.loop-place.invariant)
    ]

pub returns-then-weight-heaviest-clause-rising : goal.returns-then-weight-heaviest-clause-rising
returns-then-weight-heaviest-clause-rising c = λ rising. absurd (going_down c.args.graph.now c.args.part.now c.args.order.now c.loop-place.chosen.items c.loop-place.components c.loop-place.place-index
    c.loop-place.heaviest _ (omega arith) (ap (λ e. e.weight) c.edge-weight.ensures.edge) (omega arith) c.loop-place.invariant rising)

pub returns-clause-forest : goal.returns-clause-forest
returns-clause-forest c = going_done c.args.graph.now c.args.part.now c.args.order.now c.loop-place.chosen.items c.loop-place.chosen.items c.loop-place.components c.loop-place.place-index c.loop-place.heaviest c.requires.order (omega arith) refl c.loop-place.invariant
