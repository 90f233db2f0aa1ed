use Rattle.std.proofs.Common.{◌≡◌, ◌≤◌, length, take, drop}
use Rattle.mono_dynamic.specs.Costs.{AreLinked, unwound}
use Rattle.mono_dynamic.proofs.cost_table.undo_changes_to.Given as goal

abbrev pub invariant-loop-changes : goal.invariant-loop-changes
invariant-loop-changes l = record {
  held : l.count ≤ length l.changes.items;
  fewer : length l.changes.items ≤ length l.fn.changes.items;
  len : length l.labels.items ≡ length l.fn.labels.items;
  labels : l.labels.items ≡ unwound l.fn.labels.items (drop (length l.changes.items) l.fn.changes.items);
  changes : l.changes.items ≡ take (length l.changes.items) l.fn.changes.items;
  linked : AreLinked l.labels.items l.changes.items l.latest.items;
}

abbrev pub decreases-loop-changes : goal.decreases-loop-changes
decreases-loop-changes l = length l.changes.items
