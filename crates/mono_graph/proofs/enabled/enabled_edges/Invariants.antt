use Rattle.mono_base.specs.Literal.{value_in}
use Rattle.mono_graph.proofs.Told.{AreTold}
use Rattle.mono_graph.proofs.enabled.enabled_edges.Given as goal

abbrev pub invariant-loop-place : goal.invariant-loop-place
invariant-loop-place l = AreTold (value_in l.model) l.graph l.place l.part
