use Rattle.std.proofs.Common.{◌-◌, length}
use Rattle.mono_theory.specs.RowSides.{AreRowsFor}
use Rattle.mono_theory.proofs.rows_side.look.Given as goal

abbrev pub invariant-literals : goal.invariant-literals
invariant-literals g l = AreRowsFor g.K.Kind.covers g.R.Rows.IS_POSSIBLE g.R.Rows.are_right g.R.Rows.shown l.frame l.side

abbrev pub decreases-literals : goal.decreases-literals
decreases-literals g l = length l.frame.seen - l.side.looked
