use Rattle.std.proofs.Common.{◌≡◌, ◌<◌, ◌≤◌, ◌-◌, length}
use Rattle.std.specs.Prelude.{IsTrue}
use Rattle.mono_dynamic.specs.Arrivals.{arrival_at, is_reached}
use Rattle.mono_dynamic.specs.Mending.{IsComing}
use Rattle.mono_dynamic.proofs.mending.find_entry.Given as goal

abbrev pub invariant-loop-head : goal.invariant-loop-head
invariant-loop-head l = record {
  coming : IsComing l.graph l.part l.tree.source l.first l.head l.behind.arrivals;
  held : l.first ≤ l.head;
  target : l.first < length l.behind.arrivals → (arrival_at l.behind.arrivals l.first).node ≡ l.target;
  there : IsTrue (is_reached l.behind.arrivals l.target);
  nodes : l.behind.nodes ≡ l.fn.behind.nodes;
  source : l.behind.source ≡ l.fn.behind.source;
}

abbrev pub decreases-loop-head : goal.decreases-loop-head
decreases-loop-head l = l.fn.behind.nodes - l.head
