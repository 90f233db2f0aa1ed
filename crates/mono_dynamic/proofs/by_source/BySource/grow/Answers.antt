use Rattle.mono_dynamic.proofs.RowLists.{rows_restored}
use Rattle.mono_dynamic.proofs.by_source.BySource.grow.Goals as goal

pub returns-in-Err-clause-unchanged : goal.returns-in-Err-clause-unchanged
returns-in-Err-clause-unchanged g c =
    rows_restored g.R.SourceRow.fits g.R.SourceRow.grown g.R.SourceRow.undone c.args.graph.now c.args.part.now c.args.places.now c.args.looked c.args.self.now c.grow_each.new.rows.items c.undo_each.new.rows.items
    c.requires.rows (rw c.self.view_is at c.in-Err.ensures.some) c.undo_each.ensures
