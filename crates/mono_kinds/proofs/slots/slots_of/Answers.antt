use Rattle.std.proofs.Common.{◌≡◌, ◌+◌, ◌<◌, length, arith, ap, ◌∙◌}
use Rattle.mono_problem.specs.Read.{atom_numbered}
use Rattle.mono_kinds.specs.Slots.{slot_of}
use Rattle.mono_kinds.proofs.SlotNumbers.{slots_more, slot_held}
use Rattle.mono_kinds.proofs.slots.slots_of.Goals as goal

pub loop-place-preserved : goal.loop-place-preserved
loop-place-preserved c =
    let p = c.args.problem.now in
    let m = c.loop-place.place in
    let lt : m < length p.atoms = omega (arith, c.loop-place-test.true, c.atom_count-place-end.ensures) in
    let slot : c.slot_of.result ≡ slot_of (atom_numbered p (m + 1)) = c.slot_of.ensures ∙ ap slot_of c.atom-atom.ensures in
    rw (c.in_ok-push.ensures.ok, slot) (slots_more p m c.loop-place.slots (slot_held p (m + 1) c.known.ensures.problem (omega arith) (omega (arith, lt))) c.loop-place.invariant)
