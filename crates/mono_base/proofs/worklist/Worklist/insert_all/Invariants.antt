use Rattle.std.proofs.Common.{◌≡◌, ℕ, ◌||◌, length, take}
use Rattle.mono_base.specs.Numbers.{has}
use Rattle.mono_base.specs.Worklist.{is_listed}
use Rattle.mono_base.proofs.worklist.Worklist.insert_all.Given as goal

abbrev pub invariant-loop-place : goal.invariant-loop-place
invariant-loop-place l = record {
  as_many : length l.self.listed ≡ length l.fn.self.listed;
  each : (p : ℕ) → is_listed l.self.listed p ≡ (is_listed l.fn.self.listed p || has (take l.place-index l.places) p);
}
