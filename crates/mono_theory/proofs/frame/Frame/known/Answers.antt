use Rattle.mono_theory.proofs.FramesStay.{seen_few}
use Rattle.mono_theory.proofs.frame.Frame.known.Goals as goal

pub returns-clause-few : goal.returns-clause-few
returns-clause-few c = rw (← c.self.view_is) (seen_few c.self.invariant)
