use Rattle.std.proofs.Common.{true, sym, ◌∙◌, arith}
use Rattle.mono_problem.specs.Read.{no_atom}
use Rattle.mono_theory.proofs.SureRowsStay.{row_held, shown_decides, shown_is, sure_in, target_fits}
use Rattle.mono_theory.proofs.sure_rows.SureRowsRows.shows.Goals as goal

pub target-target-requires : goal.target-target-requires
target-target-requires g c = (let len = c.requires.right.targets.len in omega (arith, len, c.requires.place))

pub row-row-requires-clause-place : goal.row-row-requires-clause-place
row-row-requires-clause-place g c = (let len = c.requires.right.served.len in omega (arith, len, c.requires.place))

pub row-row-requires-clause-row : goal.row-row-requires-clause-row
row-row-requires-clause-row g c = row_held c.args.place c.requires.place c.requires.right

pub shows-requires : goal.shows-requires
shows-requires g c = target_fits g.R.SourceRow.fits g.met.R.ShowsWalks.is_fit c.args.place c.row-row.result.now c.target-target.result c.requires.place c.row-row.ensures c.target-target.ensures c.requires.right

pub returns-clause-shown : goal.returns-clause-shown
returns-clause-shown g c = c.shows.ensures ∙ shown_is g.R.ShowsWalks.shows c.args.place c.row-row.result.now c.target-target.result c.requires.place c.row-row.ensures c.target-target.ensures c.requires.right

pub returns-clause-decides : goal.returns-clause-decides
returns-clause-decides g c = λ on.
    let law = g.met.R.ShowsWalks in
    let f = c.args.frame.now in
    let is = c.shows.ensures ∙ shown_is g.R.ShowsWalks.shows c.args.place c.row-row.result.now c.target-target.result c.requires.place c.row-row.ensures c.target-target.ensures c.requires.right in
    shown_decides {can_show = g.R.ShowsWalks.can_show} (record { exact = law.exact }) c.args.place true c.requires.place (law.serves _ (c.requires.covered.each c.args.place no_atom c.requires.place)) (sym is ∙ on) (sure_in law.same f c.args.looked c.requires.looked c.requires.right)
