use Rattle.std.proofs.Common.{◌≡◌, length}
use Rattle.mono_dynamic.proofs.RowLists.{AreChanged}
use Rattle.mono_dynamic.proofs.by_source.grow_each.Given as goal

abbrev pub invariant-loop-i : goal.invariant-loop-i
invariant-loop-i g l = record {
  end : l.i-end ≡ length l.rows.items;
  changed : AreChanged (g.R.SourceRow.grown l.graph l.part l.places l.looked) l.fn.rows.items l.rows.items l.i;
}
