use Rattle.std.proofs.Common.{◌≡◌}
use Rattle.mono_dynamic.proofs.ComingBack.{AreEntered}
use Rattle.mono_dynamic.proofs.mending.come_back.Given as goal

abbrev pub invariant-loop-place : goal.invariant-loop-place
invariant-loop-place l = record {
  entered : AreEntered l.graph l.part l.tree.source l.first l.at l.place-index l.place-items l.fn.behind.arrivals l.behind.arrivals;
  nodes : l.behind.nodes ≡ l.fn.behind.nodes;
  source : l.behind.source ≡ l.fn.behind.source;
}
