use Rattle.std.proofs.Common.{◌+◌, ◌-◌, ◌≤◌, not, length}
use Rattle.std.specs.Prelude.{count_by}
use Rattle.mono_flow.specs.Growing.{IsClosedFrom, IsJoined}
use Rattle.mono_flow.proofs.growing.close.Given as goal

abbrev pub invariant-loop-head : goal.invariant-loop-head
invariant-loop-head l = record {
  joined : IsJoined l.graph l.fn.marks.items l.fn.set.items l.marks.items l.set.items;
  low : l.before ≤ l.head;
  closed : IsClosedFrom l.graph l.part l.before l.head l.set.items;
}

abbrev pub decreases-loop-head : goal.decreases-loop-head
decreases-loop-head l = (count_by (λ b. not b) l.marks.items + length l.set.items) - l.head
