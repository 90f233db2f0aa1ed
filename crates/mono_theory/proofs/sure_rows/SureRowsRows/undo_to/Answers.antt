use Rattle.std.proofs.Common.{arith}
use Rattle.mono_theory.proofs.SureRowsStay.{back_shows, sure_back, sure_cut, sure_in}
use Rattle.mono_theory.proofs.sure_rows.SureRowsRows.undo_to.Goals as goal

pub returns-clause-right : goal.returns-clause-right
returns-clause-right g c =
    let law = g.met.R.ShowsWalks in
    let f = c.args.frame.now in
    let h = sure_in law.same f c.args.looked c.requires.looked c.requires.right in
    sure_cut law.same f c.args.kept (omega (arith, c.requires.looked, c.requires.kept)) (sure_back law.goes_back c.undo_to.new.self c.args.looked c.args.kept c.requires.kept c.undo_to.ensures.undone c.undo_to.ensures.same h)

pub returns-clause-shown : goal.returns-clause-shown
returns-clause-shown g c = λ a lt on.
    let law = g.met.R.ShowsWalks in
    let h = sure_in law.same c.args.frame.now c.args.looked c.requires.looked c.requires.right in
    back_shows {can_show = g.R.ShowsWalks.can_show} (record { exact = law.exact }) law.serves c.args.looked c.args.kept a c.requires.kept lt h
    (sure_back law.goes_back c.undo_to.new.self c.args.looked c.args.kept c.requires.kept c.undo_to.ensures.undone c.undo_to.ensures.same h) on
