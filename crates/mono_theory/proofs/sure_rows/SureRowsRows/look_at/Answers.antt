use Rattle.std.proofs.Common.{◌+◌, arith, length, sym, ◌∙◌}
use Rattle.mono_theory.specs.SureRows.{shows_walk}
use Rattle.mono_theory.proofs.DueStay.{due_none}
use Rattle.mono_theory.proofs.SureRowsStay.{looked_due, rows_fit, sure_cut, sure_in, sure_looked}
use Rattle.mono_theory.proofs.sure_rows.SureRowsRows.look_at.Goals as goal

pub look_at-requires-clause-rows : goal.look_at-requires-clause-rows
look_at-requires-clause-rows g c =
    let law = g.met.R.ShowsWalks in
    rows_fit g.R.SourceRow.fits law.is_fit c.args.looked (sure_in law.same c.args.frame.now c.args.looked (omega (arith, c.requires.more)) c.requires.right)

pub look_at-requires-clause-size : goal.look_at-requires-clause-size
look_at-requires-clause-size g c = c.requires.size ∙ sym c.requires.right.targets.len

pub returns-clause-looked : goal.returns-clause-looked
returns-clause-looked g c =
    let law = g.met.R.ShowsWalks in
    let f = c.args.frame.now in
    let n = c.args.looked in
    sure_cut law.same f (n + 1) (omega (arith, c.requires.more)) (sure_looked law.grows law.still n c.in_ok-look_at.ensures.looked (sure_in law.same f n (omega (arith, c.requires.more)) c.requires.right))

pub returns-clause-due : goal.returns-clause-due
returns-clause-due g c =
    let law = g.met.R.ShowsWalks in
    let n = c.args.looked in
    let h = sure_in law.same c.args.frame.now n (omega (arith, c.requires.more)) c.requires.right in
    looked_due g.R.SourceRow.fits law.newly n (rows_fit g.R.SourceRow.fits law.is_fit n h) c.in_ok-look_at.ensures.looked h

pub returns-in_err-look_at-clause-due : goal.returns-in_err-look_at-clause-due
returns-in_err-look_at-clause-due g c =
    rw (c.in_err-look_at.ensures.unlooked, c.in_err-look_at.ensures.none_due) (due_none (length c.args.frame.now.atoms) (shows_walk g.R.ShowsWalks.shows c.args.self.now) c.args.due.now.listed)
