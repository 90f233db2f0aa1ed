use Rattle.std.proofs.Common.{◌≡◌, length}
use Rattle.mono_learn.specs.Minimizing.{AreLeft}
use Rattle.mono_learn.proofs.minimize.unmark.Given as goal

abbrev pub invariant-loop-place : goal.invariant-loop-place
invariant-loop-place l = record {
  len : length l.seen.items ≡ length l.fn.seen.items;
  left : AreLeft l.fn.seen.items l.seen.items l.kept l.last l.place-index;
}
