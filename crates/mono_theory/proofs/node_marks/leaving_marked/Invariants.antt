use Rattle.std.proofs.Common.{◌≡◌, take}
use Rattle.std.specs.Prelude.{flat_map}
use Rattle.mono_theory.specs.Resting.{absent_from}
use Rattle.mono_theory.proofs.node_marks.leaving_marked.Given as goal

abbrev pub invariant-loop-node : goal.invariant-loop-node
invariant-loop-node l = l.edges.items ≡ flat_map (absent_from l.graph l.part l.nodes) (take l.node-index l.nodes)
