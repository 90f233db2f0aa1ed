use Rattle.std.proofs.Common.{◌≡◌, ℕ, ◌<◌, length, get_or}
use Rattle.mono_bounds.specs.Entries.{entry_at}
use Rattle.mono_bounds.proofs.index.entries_of.Given as goal

abbrev pub invariant-loop-place : goal.invariant-loop-place
invariant-loop-place l = record {
  len : length l.entries.items ≡ l.place;
  each : (k : ℕ) → k < l.place → entry_at l.entries.items k ≡ record { key = get_or l.keys k 0; place = k };
}
