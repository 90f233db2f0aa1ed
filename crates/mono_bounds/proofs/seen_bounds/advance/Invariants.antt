use Rattle.std.proofs.Common.{◌≡◌, take}
use Rattle.mono_bounds.specs.Bound.{IsBoundUnder}
use Rattle.mono_bounds.proofs.seen_bounds.advance.Given as goal

abbrev pub invariant-loop-at : goal.invariant-loop-at
invariant-loop-at l = record {
  places : l.bounds.places ≡ l.initial.bounds.places;
  bounds : IsBoundUnder l.bounds l.initial.bounds.vars (take l.at l.lits);
}
