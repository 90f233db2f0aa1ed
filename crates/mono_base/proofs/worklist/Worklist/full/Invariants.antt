use Rattle.std.proofs.Common.{◌≡◌, ℕ, ◌<◌, ◌≤◌, length, true, false}
use Rattle.std.specs.List.{range_with_len}
use Rattle.mono_base.specs.Worklist.{is_listed}
use Rattle.mono_base.proofs.worklist.Worklist.full.Given as goal

abbrev pub invariant-loop-place : goal.invariant-loop-place
invariant-loop-place l = record {
  count : length l.list.listed ≡ l.count;
  on : (p : ℕ) → p < l.place → is_listed l.list.listed p ≡ true;
  off : (p : ℕ) → l.place ≤ p → is_listed l.list.listed p ≡ false;
  places : l.list.places ≡ range_with_len 0 l.place;
}
