use Rattle.mono_theory.proofs.StageChanges.{none_waits}
use Rattle.mono_theory.proofs.stages.Stages.next.Goals as goal

pub returns-then-self : goal.returns-then-self
returns-then-self c = rw (← c.self.view_is) (none_waits c.self.invariant c.if-self.true)
