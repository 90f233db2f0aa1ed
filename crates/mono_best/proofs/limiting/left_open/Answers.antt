use Rattle.std.proofs.Common.{◌∷◌, [], ap, length, arith, List, Bool, length-append}
use Rattle.mono_best.proofs.limiting.left_open.Goals as goal

pub loop-place-preserved : goal.loop-place-preserved
loop-place-preserved c =
    omega (arith, ap (λ (bs : List Bool). length bs) c.in_ok-push.ensures.items, length-append c.loop-place.flags.items (c.may_be_true.result ∷ []), c.loop-place.invariant)

pub returns : goal.returns
returns c = omega (arith, c.loop-place.invariant, c.loop-place-test.false, c.vars-place-end.ensures.vars, c.loop-place.auto.place-end)
