use Rattle.std.proofs.Common.{arith}
use Rattle.mono_theory.proofs.PossibleParts.{rows_undone, targets_cut, targets_in, undone_shows}
use Rattle.mono_theory.proofs.possible_rows.PossibleRowsRows.undo_to.Goals as goal

pub returns-clause-right : goal.returns-clause-right
returns-clause-right g c =
    let h = targets_in c.args.frame.now c.args.looked c.requires.looked (rw (← c.self.view_is) at c.requires.right) in
    targets_cut c.args.frame.now c.args.kept (omega (arith, c.requires.looked, c.requires.kept)) (rows_undone c.args.looked c.args.kept c.undo_to.new.self c.requires.kept c.undo_to.ensures.nodes c.undo_to.ensures.rows h)

pub returns-clause-shown : goal.returns-clause-shown
returns-clause-shown g c = λ a lt.
    let h = targets_in c.args.frame.now c.args.looked c.requires.looked (rw (← c.self.view_is) at c.requires.right) in
    rw (← c.self.view_is) (undone_shows c.args.looked c.args.kept c.undo_to.new.self.rows a h lt c.undo_to.ensures.rows)
