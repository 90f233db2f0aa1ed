use Rattle.mono_best.proofs.leaping.last_found.Goals as goal

pub returns : goal.returns
returns g c = c.loop-alloc.invariant.found
