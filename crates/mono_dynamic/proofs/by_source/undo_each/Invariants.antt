use Rattle.std.proofs.Common.{◌≡◌, length}
use Rattle.mono_dynamic.specs.BySource.{IsBack}
use Rattle.mono_dynamic.proofs.RowLists.{AreChanged}
use Rattle.mono_dynamic.proofs.by_source.undo_each.Given as goal

abbrev pub invariant-loop-i : goal.invariant-loop-i
invariant-loop-i g l = record {
  end : l.i-end ≡ length l.rows.items;
  changed : AreChanged (IsBack g.R.SourceRow.fits g.R.SourceRow.grown g.R.SourceRow.undone l.kept) l.fn.rows.items l.rows.items l.i;
}
