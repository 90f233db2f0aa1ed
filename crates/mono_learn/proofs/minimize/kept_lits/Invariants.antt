use Rattle.std.proofs.Common.{◌<◌, ℕ}
use Rattle.std.specs.Prelude.{Contains}
use Rattle.mono_learn.specs.Minimizing.{AreKept}
use Rattle.mono_learn.proofs.minimize.kept_lits.Given as goal

abbrev pub invariant-loop-place : goal.invariant-loop-place
invariant-loop-place l = (start : ℕ) → ((k : ℕ) → Contains l.kept k → k < start) → AreKept l.trail.lits start l.seen l.kept l.place-index l.lits.items
