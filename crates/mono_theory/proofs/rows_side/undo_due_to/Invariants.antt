use Rattle.std.proofs.Common.{◌≡◌, ◌≤◌, ◌-◌, ℕ, Bool, length, take}
use Rattle.mono_theory.specs.RowSides.{AreSettledBut}
use Rattle.mono_theory.proofs.rows_side.undo_due_to.Given as goal

abbrev pub invariant-back : goal.invariant-back
invariant-back l = record {
  low : l.kept ≤ l.at;
  high : l.at ≤ length l.frame.seen;
  size : length l.due.listed ≡ length l.frame.atoms;
  due : (possible : Bool) → (shown : ℕ → Bool) → AreSettledBut (take l.looked l.frame.seen) possible l.frame.atoms shown l.initial.due.listed → AreSettledBut (take l.at l.frame.seen) possible l.frame.atoms shown l.due.listed;
}

abbrev pub decreases-back : goal.decreases-back
decreases-back l = l.at - l.kept
