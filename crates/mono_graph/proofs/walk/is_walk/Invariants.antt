use Rattle.std.proofs.Common.{◌≡◌, drop}
use Rattle.mono_graph.specs.Walks.{is_walk}
use Rattle.mono_graph.proofs.walk.is_walk.Given as goal

abbrev pub invariant-loop-place : goal.invariant-loop-place
invariant-loop-place l = is_walk l.graph l.part l.fn.from l.to l.edges ≡ is_walk l.graph l.part l.at l.to (drop l.place-index l.edges)
