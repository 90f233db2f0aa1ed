use Rattle.mono_kinds.specs.Slots.{AreSlots}
use Rattle.mono_kinds.proofs.slots.slots_of.Given as goal

abbrev pub invariant-loop-place : goal.invariant-loop-place
invariant-loop-place l = AreSlots l.problem l.place l.slots
