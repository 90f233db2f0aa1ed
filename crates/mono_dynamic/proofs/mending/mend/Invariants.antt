use Rattle.std.proofs.Common.{◌≡◌}
use Rattle.std.specs.Prelude.{All, ◌≤◌}
use Rattle.mono_dynamic.specs.Mending.{AreOut}
use Rattle.mono_dynamic.proofs.ComingBack.{AreMended}
use Rattle.mono_dynamic.proofs.mending.mend.Given as goal

abbrev pub invariant-loop-target : goal.invariant-loop-target
invariant-loop-target l = record {
  mended : AreMended l.graph l.part l.fn.tree.source l.targets l.target-index l.tree;
  out : AreOut l.graph l.part l.fn.tree.source l.behind.arrivals;
  size : l.behind.nodes ≡ l.fn.behind.nodes;
  nodes : l.tree.nodes ≡ l.fn.tree.nodes;
  source : l.tree.source ≡ l.fn.tree.source;
  stamps : All (λ a. a.stamp ≤ 0) l.tree.arrivals;
}
