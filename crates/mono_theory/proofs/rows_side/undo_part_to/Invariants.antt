use Rattle.std.proofs.Common.{◌≡◌, ◌≤◌, ◌-◌, length, take}
use Rattle.mono_theory.specs.Supports.{part_of}
use Rattle.mono_theory.proofs.rows_side.undo_part_to.Given as goal

abbrev pub invariant-back : goal.invariant-back
invariant-back l = record {
  low : l.kept ≤ l.at;
  high : l.at ≤ length l.frame.seen;
  part : l.part ≡ part_of l.frame.graph (take l.at l.frame.seen) l.possible;
}

abbrev pub decreases-back : goal.decreases-back
decreases-back l = l.at - l.kept
