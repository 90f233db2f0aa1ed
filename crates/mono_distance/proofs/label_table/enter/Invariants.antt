use Rattle.std.proofs.Common.{◌≡◌, ◌≤◌, ℕ, length, get_or, drop}
use Rattle.mono_distance.specs.Labels.{entry_in}
use Rattle.mono_distance.proofs.label_table.enter.Given as goal

abbrev pub invariant-back : goal.invariant-back
invariant-back l = record {
  high : l.at ≤ length l.labels;
  len : length l.entries.items ≡ length l.initial.entries.items;
  entered : (u : ℕ) → get_or l.entries.items u 0 ≡ entry_in (drop l.at l.labels) u;
}

abbrev pub decreases-back : goal.decreases-back
decreases-back l = l.at
