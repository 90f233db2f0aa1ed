use Rattle.std.proofs.Common.{◌∙◌, sym, arith}
use Rattle.mono_steps.proofs.Switched.{place_of_use}
use Rattle.mono_steps.proofs.switching.switch_uses.Goals as goal

pub set-requires : goal.set-requires
set-requires c =
    let here = place_of_use c.args.graph c.in-Some.place c.args.uses.now c.loop-used.used-index _ c.loop-used-test.true (sym c.place_in.ensures ∙ c.in-Some.is) in
    omega (arith, c.requires.known c.in-Some.place here, c.loop-used.invariant.size)
