use Rattle.std.proofs.Common.{◌≡◌, ◌<◌, ◌-◌, length}
use Rattle.mono_io.specs.Reading.{HasTaken, KeepsChoice}
use Rattle.mono_io.proofs.pieces.take_rest.Given as goal

-- The consumer has taken the bytes of the chosen text up to the shelf's place. No call has failed.
abbrev pub invariant-pieces : goal.invariant-pieces
invariant-pieces g l =
    record {
      room : 0 < length l.buffer;
      taken : HasTaken (g.S.Shelf.seen l.shelf) l.limit l.taken (λ bytes. g.C.Consumer.takes l.initial.consumer bytes l.consumer);
      choice : KeepsChoice (g.S.Shelf.seen l.initial.shelf) (g.S.Shelf.seen l.shelf);
      faults : (g.S.Shelf.seen l.shelf).faults ≡ (g.S.Shelf.seen l.initial.shelf).faults;
    }

abbrev pub decreases-pieces : goal.decreases-pieces
decreases-pieces g l = l.limit - l.taken
