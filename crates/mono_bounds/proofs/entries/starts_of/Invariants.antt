use Rattle.std.proofs.Common.{◌≡◌, ℕ, ◌<◌, ◌≤◌, length, get_or}
use Rattle.std.specs.List.{AllWithin}
use Rattle.mono_bounds.specs.Entries.{IsStart, bucket}
use Rattle.mono_bounds.proofs.entries.starts_of.Given as goal

abbrev pub invariant-loop-number : goal.invariant-loop-number
invariant-loop-number l = record {
  len : length l.starts.items ≡ l.number;
  each : (b : ℕ) → b < l.number → IsStart l.entries l.least l.shift b (get_or l.starts.items b 0);
  fits : l.start ≤ length l.entries;
  below : AllWithin (λ e. bucket l.least l.shift e.key < l.number) l.entries 0 l.start;
}
