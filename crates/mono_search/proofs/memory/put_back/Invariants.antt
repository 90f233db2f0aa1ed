use Rattle.std.proofs.Common.{◌≡◌, ◌≤◌, ℕ, length}
use Rattle.mono_base.specs.Literal.{value_in}
use Rattle.mono_trail.specs.Moves.{IsVar}
use Rattle.mono_search.proofs.memory.put_back.Given as goal

abbrev pub invariant-loop-place : goal.invariant-loop-place
invariant-loop-place l = record {
  waits : l.order.waits ≡ l.fn.order.waits;
  as_many : length l.order.phases ≡ length l.fn.order.phases;
  done : length l.fn.order.phases ≡ l.vars → (v : ℕ) → IsVar l.place v → v ≤ length l.main → value_in l.order.phases v ≡ value_in l.main v;
}
