use Rattle.std.proofs.Common.{arith}
use Rattle.mono_learn.proofs.minimize.is_seen.Goals as goal

pub bounds-seen-place_of_false : goal.bounds-seen-place_of_false
bounds-seen-place_of_false c = omega (arith, c.place_of_false.ensures.within, c.requires.slots)

pub returns-clause-on : goal.returns-clause-on
returns-clause-on c = λ on. record { place = c.place_of_false.result; below = c.place_of_false.ensures.within; there = c.place_of_false.ensures.there; marked = on }

pub returns-clause-off : goal.returns-clause-off
returns-clause-off c = λ off. record { by = record { place = c.place_of_false.result; below = c.place_of_false.ensures.within; within = c.place_of_false.ensures.within; there = c.place_of_false.ensures.there }; off = off }
