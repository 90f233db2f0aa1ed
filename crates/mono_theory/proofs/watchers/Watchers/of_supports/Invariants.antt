use Rattle.std.proofs.Common.{◌≡◌, length}
use Rattle.mono_theory.specs.Watching.{AreBelow, AllWatch}
use Rattle.mono_theory.proofs.watchers.Watchers.of_supports.Given as goal

abbrev pub invariant-loop-atom : goal.invariant-loop-atom
invariant-loop-atom l = record {
  len : length l.lists ≡ l.fn.edges;
  below : AreBelow (length l.supports) l.lists;
  watch : AllWatch l.lists l.supports l.atom;
}
