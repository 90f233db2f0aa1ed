use Rattle.std.proofs.Common.{◌≡◌, length}
use Rattle.mono_paths.proofs.Listed.{Entered}
use Rattle.mono_paths.proofs.table.LabelTable.enter.Given as goal

abbrev pub invariant-loop-label : goal.invariant-loop-label
invariant-loop-label l = record {
  others : l.self.others ≡ l.fn.self.others;
  entered : Entered (length l.fn.self.listed.items) l.self.listed.items l.self.values.items l.labels l.label-index;
}
