use Rattle.std.proofs.Common.{◌≡◌, ◌≤◌, ℕ, length}
use Rattle.std.specs.Prelude.{IsTrue}
use Rattle.mono_base.specs.Literal.{value_in}
use Rattle.mono_tests.proofs.tests.trail.order.give_all_back.Given as goal

abbrev pub invariant-loop-before : goal.invariant-loop-before
invariant-loop-before l = record {
  as_many : length l.order.waits ≡ length l.fn.order.waits;
  wait : (v : ℕ) → 1 ≤ v → v ≤ l.before → IsTrue (value_in l.order.waits v);
}
