use Rattle.std.proofs.Common.{ℕ, ◌<◌, ◌≤◌, length}
use Rattle.mono_dynamic.specs.Costs.{change_at}
use Rattle.mono_dynamic.proofs.cost_table.CostTable.count_by.Given as goal

abbrev pub invariant-loop-count : goal.invariant-loop-count
invariant-loop-count l = record {
  held : l.count ≤ length l.self-inside.changes.items;
  later : (i : ℕ) → l.count ≤ i → i < length l.self-inside.changes.items → l.kept < (change_at l.self-inside.changes.items i).stamp;
}

abbrev pub decreases-loop-count : goal.decreases-loop-count
decreases-loop-count l = l.count
