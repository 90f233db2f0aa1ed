use Rattle.std.proofs.Common.{◌≡◌, ◌++◌, take, filter}
use Rattle.std.specs.Prelude.{flat_map}
use Rattle.mono_graph.specs.Digraph.{leaving}
use Rattle.mono_flow.specs.Growing.{is_open}
use Rattle.mono_flow.proofs.growing.push_leaving.Given as goal

abbrev pub invariant-loop-node : goal.invariant-loop-node
invariant-loop-node l = l.edges.items ≡ l.initial.edges.items ++ flat_map (λ u. filter (is_open l.graph l.part l.marks) (leaving l.graph u)) (take l.node-index l.nodes)
