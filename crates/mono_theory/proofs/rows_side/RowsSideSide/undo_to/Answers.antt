use Rattle.std.proofs.Common.{arith}
use Rattle.mono_theory.proofs.RowsStay.{rows_back}
use Rattle.mono_theory.proofs.rows_side.RowsSideSide.undo_to.Goals as goal

pub undo_part_to-requires-clause-part : goal.undo_part_to-requires-clause-part
undo_part_to-requires-clause-part g c = (let h = rw (← c.self.view_is) at c.requires.right in rw c.IS_POSSIBLE.ensures h.part)

pub returns-clause-right : goal.returns-clause-right
returns-clause-right g c =
    let s = c.self.inside in
    let h = rw (← c.self.view_is) at c.requires.right in
    rows_back c.args.kept c.undo_part_to.new.part c.undo_to.new.self c.undo_due_to.new.due.listed (omega (arith, c.if-self-kept.false)) (rw c.IS_POSSIBLE.ensures at c.undo_part_to.ensures) c.undo_to.ensures.right c.undo_to.ensures.shown
    (c.undo_due_to.ensures g.R.Rows.IS_POSSIBLE (g.R.Rows.shown s.rows) h.due) h
