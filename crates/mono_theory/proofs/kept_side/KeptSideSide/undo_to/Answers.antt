use Rattle.mono_theory.proofs.BothSidesStay.{side_gone_back}
use Rattle.mono_theory.proofs.kept_side.KeptSideSide.undo_to.Goals as goal

pub returns-clause-right : goal.returns-clause-right
returns-clause-right g c = side_gone_back c.args.kept c.undo_to.new.self (c.undo_to.ensures.side c.args.frame.now c.requires.within c.requires.right.side) c.undo_to.ensures.exact c.requires.right
