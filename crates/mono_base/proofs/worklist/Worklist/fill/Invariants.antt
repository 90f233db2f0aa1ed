use Rattle.std.proofs.Common.{◌≡◌, ◌<◌, ◌≤◌, ℕ, true, length}
use Rattle.mono_base.specs.Worklist.{is_listed}
use Rattle.mono_base.proofs.worklist.Worklist.fill.Given as goal

abbrev pub invariant-places : goal.invariant-places
invariant-places l = record {
  size : length l.self.listed ≡ length l.fn.self.listed;
  below : l.left ≤ length l.fn.self.listed;
  all : (p : ℕ) → l.left ≤ p → p < length l.fn.self.listed → is_listed l.self.listed p ≡ true;
}

abbrev pub decreases-places : goal.decreases-places
decreases-places l = l.left
