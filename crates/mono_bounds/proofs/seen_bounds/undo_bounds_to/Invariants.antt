use Rattle.std.proofs.Common.{◌≡◌, ◌≤◌, ◌-◌, length, take}
use Rattle.mono_bounds.specs.Bound.{IsBoundUnder}
use Rattle.mono_bounds.proofs.seen_bounds.undo_bounds_to.Given as goal

abbrev pub invariant-back : goal.invariant-back
invariant-back l = record {
  low : l.kept ≤ l.at;
  high : l.at ≤ length l.lits;
  places : l.bounds.places ≡ l.initial.bounds.places;
  bounds : IsBoundUnder l.bounds l.initial.bounds.vars (take l.at l.lits);
}

abbrev pub decreases-back : goal.decreases-back
decreases-back l = l.at - l.kept
