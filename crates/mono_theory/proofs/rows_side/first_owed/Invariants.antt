use Rattle.std.proofs.Common.{length}
use Rattle.mono_theory.specs.RowSides.{AreSettledBut}
use Rattle.mono_theory.proofs.rows_side.first_owed.Given as goal

abbrev pub invariant-atoms : goal.invariant-atoms
invariant-atoms g l = AreSettledBut l.frame.seen g.R.Rows.IS_POSSIBLE l.frame.atoms (g.R.Rows.shown l.rows) l.due.listed

abbrev pub decreases-atoms : goal.decreases-atoms
decreases-atoms g l = length l.due.places
