use Rattle.std.proofs.Common.{◌≡◌, ℕ, ◌+◌, ◌<◌, length}
use Rattle.std.specs.Prelude.{slice_index_or}
use Rattle.mono_steps.specs.Renumbering.{rank}
use Rattle.mono_steps.proofs.renumbering.new_numbers.Given as goal

abbrev pub invariant-loop-flag : goal.invariant-loop-flag
invariant-loop-flag l = record {
  so_far : length l.numbers.items ≡ l.flag-index;
  at : (k : ℕ) → k < l.flag-index → slice_index_or l.numbers.items k 0 ≡ l.count + 1 + rank l.flags k;
  next : l.next ≡ l.count + 1 + rank l.flags l.flag-index;
}
