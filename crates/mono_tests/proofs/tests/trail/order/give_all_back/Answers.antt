use Rattle.std.proofs.Common.{arith, ◌∙◌, ◌+◌, ◌-◌, true}
use Rattle.std.proofs.lemmas.List.{length-set}
use Rattle.mono_trail.proofs.Orders.{one_more_waits}
use Rattle.mono_tests.proofs.tests.trail.order.give_all_back.Goals as goal

pub loop-before-preserved : goal.loop-before-preserved
loop-before-preserved c =
    let n = c.loop-before.before in
    let ws = c.loop-before.order.waits in
    let here = c.loop-before.invariant in
    rw c.give_back.ensures (record {
      as_many = length-set ws (n + 1 - 1) true ∙ here.as_many;
      wait = one_more_waits ws n (n + 1 - 1) (omega arith) (omega (arith, here.as_many, c.requires, c.vars-before-end.ensures, c.loop-before-test.true)) here.wait;
    })
