use Rattle.std.proofs.Common.{◌≡◌, length}
use Rattle.mono_dynamic.specs.Targets.{IsShrunkRow}
use Rattle.mono_dynamic.proofs.RowLists.{AreChanged}
use Rattle.mono_dynamic.proofs.targets_by_source.shrink_each.Given as goal

abbrev pub invariant-loop-i : goal.invariant-loop-i
invariant-loop-i l = record {
  end : l.i-end ≡ length l.rows.items;
  changed : AreChanged (IsShrunkRow l.graph l.places l.number) l.fn.rows.items l.rows.items l.i;
}
