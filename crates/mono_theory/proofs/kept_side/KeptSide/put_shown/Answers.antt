use Rattle.mono_theory.proofs.SidesStay.{side_shown}
use Rattle.mono_theory.proofs.kept_side.KeptSide.put_shown.Goals as goal

pub returns-clause-side : goal.returns-clause-side
returns-clause-side c = λ f sound h. rw c.put.ensures (side_shown c.args.atom c.args.shown (rw (← c.self.view_is) at c.requires.next) (rw (← c.self.view_is) at sound) (rw (← c.self.view_is) at h))
