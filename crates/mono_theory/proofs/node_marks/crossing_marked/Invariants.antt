use Rattle.std.proofs.Common.{◌≡◌, ◌++◌, take}
use Rattle.std.specs.Prelude.{flat_map}
use Rattle.mono_theory.specs.Resting.{absent_from, absent_into}
use Rattle.mono_theory.proofs.node_marks.crossing_marked.Given as goal

abbrev pub invariant-loop-node : goal.invariant-loop-node
invariant-loop-node l = l.edges.items ≡ flat_map (λ u. absent_from l.graph l.part l.nodes u ++ absent_into l.graph l.part l.nodes u) (take l.node-index l.nodes)
