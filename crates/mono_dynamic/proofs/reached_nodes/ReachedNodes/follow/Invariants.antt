use Rattle.std.proofs.Common.{drop}
use Rattle.mono_dynamic.specs.Reached.{AreFollowed}
use Rattle.mono_dynamic.proofs.reached_nodes.ReachedNodes.follow.Given as goal

abbrev pub invariant-loop-place : goal.invariant-loop-place
invariant-loop-place l = AreFollowed l.graph l.part l.stamp l.places (drop l.place-index l.places) l.fn.self l.self
