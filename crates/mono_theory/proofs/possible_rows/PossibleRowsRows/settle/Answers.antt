use Rattle.std.proofs.Common.{true, length, take, ap, ◌∙◌}
use Rattle.mono_theory.specs.Theories.{cut_to}
use Rattle.mono_theory.proofs.PartsOfSides.{part_len}
use Rattle.mono_theory.proofs.PossibleDue.{atoms_due}
use Rattle.mono_theory.proofs.PossibleParts.{rows_renewed, targets_cut, targets_in}
use Rattle.mono_theory.proofs.WalksTold.{rest_is_reached}
use Rattle.mono_theory.proofs.possible_rows.PossibleRowsRows.settle.Goals as goal

pub settle_rows-requires-clause-few : goal.settle_rows-requires-clause-few
settle_rows-requires-clause-few g c = (rw (← c.self.view_is) at c.requires.right).few

pub settle_rows-requires-clause-part : goal.settle_rows-requires-clause-part
settle_rows-requires-clause-part g c = rw c.graph.ensures.graph (ap length c.requires.part ∙ part_len c.args.frame.now.graph (take c.args.looked c.args.frame.now.seen) true)

pub returns-clause-right : goal.returns-clause-right
returns-clause-right g c =
    let f = c.args.frame.now in
    let n = c.args.looked in
    let h = targets_in f n c.requires.looked (rw (← c.self.view_is) at c.requires.right) in
    targets_cut f n c.requires.looked (rows_renewed n c.args.part.now c.settle_rows.new.rows c.requires.part c.settle_rows.ensures.renewed.nodes (rw c.graph.ensures.graph at c.settle_rows.ensures.renewed.rows) h)

pub returns-in_err-settle_rows-clause-right : goal.returns-in_err-settle_rows-clause-right
returns-in_err-settle_rows-clause-right g c =
    let f = c.args.frame.now in
    let n = c.args.looked in
    let h = targets_in f n c.requires.looked (rw (← c.self.view_is) at c.requires.right) in
    targets_cut f n c.requires.looked (rows_renewed n c.args.part.now c.settle_rows.new.rows c.requires.part c.settle_rows.ensures.renewed.nodes (rw c.graph.ensures.graph at c.settle_rows.ensures.renewed.rows) h)

pub returns-clause-rest : goal.returns-clause-rest
returns-clause-rest g c =
    let f = c.args.frame.now in
    let n = c.args.looked in
    let h = targets_in f n c.requires.looked (rw (← c.self.view_is) at c.requires.right) in
    rest_is_reached {f = cut_to n f} (targets_cut f n c.requires.looked (rows_renewed n c.args.part.now c.settle_rows.new.rows c.requires.part c.settle_rows.ensures.renewed.nodes (rw c.graph.ensures.graph at c.settle_rows.ensures.renewed.rows) h)) c.in_ok-settle_rows.ensures.settled

pub returns-clause-due : goal.returns-clause-due
returns-clause-due g c = rw (← c.self.view_is) (atoms_due (rw (← c.self.view_is) at c.requires.right) c.settle_rows.ensures.renewed)

pub returns-in_err-settle_rows-clause-due : goal.returns-in_err-settle_rows-clause-due
returns-in_err-settle_rows-clause-due g c = rw (← c.self.view_is) (atoms_due (rw (← c.self.view_is) at c.requires.right) c.settle_rows.ensures.renewed)
