use Rattle.mono_theory.proofs.SidesStay.{side_cut}
use Rattle.mono_theory.proofs.kept_side.KeptSide.undo_to.Goals as goal

pub returns-clause-side : goal.returns-clause-side
returns-clause-side c = λ f fits h. rw c.undo_to.ensures (side_cut c.args.kept fits (rw (← c.self.view_is) at h))
