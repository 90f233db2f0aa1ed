use Rattle.std.proofs.Common.{length}
use Rattle.mono_theory.specs.SureRows.{shows_walk}
use Rattle.mono_theory.proofs.DueStay.{due_none}
use Rattle.mono_theory.proofs.SureRowsStay.{rest_decided, sure_in}
use Rattle.mono_theory.proofs.sure_rows.SureRowsRows.settle.Goals as goal

pub returns-clause-rest : goal.returns-clause-rest
returns-clause-rest g c =
    let law = g.met.R.ShowsWalks in
    rest_decided {can_show = g.R.ShowsWalks.can_show} (record { exact = law.exact }) law.serves c.args.looked (sure_in law.same c.args.frame.now c.args.looked c.requires.looked c.requires.right)

pub returns-clause-due : goal.returns-clause-due
returns-clause-due g c = due_none (length c.args.frame.now.atoms) (shows_walk g.R.ShowsWalks.shows c.args.self.now) c.args.due.now.listed
