use Rattle.std.proofs.Common.{take}
use Rattle.mono_acyclic.specs.Together.{IsPutIn}
use Rattle.mono_acyclic.proofs.ordering.insert_all.Given as goal

abbrev pub invariant-loop-place : goal.invariant-loop-place
invariant-loop-place l = IsPutIn l.graph l.fn.ordered l.ordered (take l.place-index l.places)
