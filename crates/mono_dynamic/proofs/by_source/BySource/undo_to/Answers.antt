use Rattle.mono_dynamic.proofs.RowLists.{all_undone}
use Rattle.mono_dynamic.proofs.by_source.BySource.undo_to.Goals as goal

pub returns : goal.returns
returns g c = all_undone g.R.SourceRow.fits g.R.SourceRow.grown g.R.SourceRow.undone c.args.kept c.args.self.now c.undo_each.new.rows.items (rw c.self.view_is at c.undo_each.ensures)
