use Rattle.std.proofs.Common.{false}
use Rattle.std.proofs.lemmas.Result.{IfOk-weaker}
use Rattle.mono_theory.specs.Supports.{AllQuiet}
use Rattle.mono_theory.proofs.NoneWaiting.{sides_are_force}
use Rattle.mono_theory.proofs.graph_theory.GraphTheoryTheory.force.Goals as goal

pub returns-in-Quiet-clause-answer : goal.returns-in-Quiet-clause-answer
returns-in-Quiet-clause-answer g c =
    let f = c.self.inside.frame in
    let surely : AllQuiet f false = rw (c.in-Quiet.is, c.self.invariant.surely.sign) at c.in_ok-force.ensures.answer in
    rw (← c.self.view_is) (IfOk-weaker c.force-in-Quiet.result _ _ (sides_are_force f surely) (rw c.self.invariant.possibly.sign at c.force-in-Quiet.ensures.answer))
