use Rattle.std.proofs.Common.{◌≡◌, ℕ, ◌+◌, ◌<◌, ◌||◌, length, take}
use Rattle.mono_steps.specs.Renumbering.{has_number}
use Rattle.mono_steps.specs.Needed.{is_set}
use Rattle.mono_steps.proofs.trimming.mark_used.Given as goal

abbrev pub invariant-loop-number : goal.invariant-loop-number
invariant-loop-number l = record {
  len : length l.needed.items ≡ length l.fn.needed.items;
  marks : (k : ℕ) → k < length l.fn.needed.items → is_set l.needed.items k ≡ (is_set l.fn.needed.items k || has_number (take l.number-index l.used) (l.count + 1 + k));
}
