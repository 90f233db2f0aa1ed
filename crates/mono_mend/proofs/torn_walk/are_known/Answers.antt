use Rattle.std.proofs.Common.{◌<◌, All, subst, arith}
use Rattle.std.proofs.lemmas.List.{take_all}
use Rattle.std.proofs.lemmas.List.Elements.{All-more}
use Rattle.mono_mend.proofs.torn_walk.are_known.Goals as goal

pub loop-place-preserved : goal.loop-place-preserved
loop-place-preserved c =
    let below = c.if-place-count.false in
    All-more (λ k. k < c.args.count) c.args.places.now c.loop-place.place-index 0 c.loop-place-test.true c.loop-place.invariant (omega arith)

pub returns : goal.returns
returns c = λ _. subst (All (λ k. k < c.args.count)) (take_all c.loop-place.place-index c.args.places.now c.loop-place-test.false) c.loop-place.invariant
