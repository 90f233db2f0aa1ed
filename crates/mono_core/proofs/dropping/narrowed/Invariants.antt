use Rattle.std.proofs.Common.{◌≡◌, ◌&&◌, ◌<◌, ℕ, length}
use Rattle.mono_steps.specs.Needed.{is_set}
use Rattle.mono_steps.specs.Renumbering.{rank}
use Rattle.mono_core.proofs.dropping.narrowed.Given as goal

abbrev pub invariant-loop-flag : goal.invariant-loop-flag
invariant-loop-flag l = record {
  so_far : length l.new.items ≡ l.flag-index;
  each : (k : ℕ) → k < l.flag-index → is_set l.new.items k ≡ (is_set l.kept k && is_set l.named (rank l.kept k));
  next : l.unit ≡ rank l.kept l.flag-index;
}
