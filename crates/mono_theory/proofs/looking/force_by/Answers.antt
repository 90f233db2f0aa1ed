use Rattle.mono_theory.specs.Supports.{AllQuiet}
use Rattle.mono_theory.proofs.NoneWaiting.{none_waiting}
use Rattle.mono_theory.proofs.looking.force_by.Goals as goal

pub returns-clause-answer : goal.returns-clause-answer
returns-clause-answer g c =
    let quiet : AllQuiet c.args.frame.now c.waiting.side.possible = none_waiting c.known.ensures.graph c.known.ensures.atoms c.waiting.invariant.side c.in_default.ensures in
    rw c.waiting.invariant.alike.sign at quiet
