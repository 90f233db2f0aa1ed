use Rattle.std.proofs.Common.{◌≡◌, ◌<◌, ℕ, cond, length, take}
use Rattle.mono_base.specs.Literal.{has_lit}
use Rattle.mono_graph.specs.Digraph.{edge_at, present, IsPartOf}
use Rattle.mono_problem.specs.Instance.{graph_at}
use Rattle.mono_steps.specs.Switching.{literal_of}
use Rattle.mono_steps.proofs.switching.switch_edges.Given as goal

abbrev pub invariant-loop-lit : goal.invariant-loop-lit
invariant-loop-lit l = record {
  part : IsPartOf l.part (graph_at l.problem l.graph);
  places : (k : ℕ) → k < length (graph_at l.problem l.graph).edges → present l.part k ≡ cond (has_lit (take l.lit-index l.lits) (literal_of l.sign (edge_at (graph_at l.problem l.graph) k).var)) l.on (present l.fn.part k);
}
