-- A graph with one more edge is a graph.
use Rattle.std.proofs.Common.{◌<◌, ◌≤◌, [], ◌∷◌, arith, length-append}
use Rattle.std.proofs.lemmas.List.Elements.{All-push}
use Rattle.mono_base.specs.declared.limits.TheConstants.{MAX_VARS, MAX_WEIGHT}
use Rattle.mono_graph.specs.declared.edge.Edge.{Edge}
pub use Rattle.mono_graph.specs.Digraph.{IsNewEdge}
use Rattle.mono_graph.specs.Digraph.{Digraph, IsGraph, with_edge}
use Rattle.mono_graph.proofs.EdgeNumbers.{IsRising-with_edge}

pub IsGraph-with_edge : (g : Digraph) (e : Edge) → IsGraph g → IsNewEdge g e → IsGraph (with_edge g e)
IsGraph-with_edge g e ok new = record {
  some_node = ok.some_node;
  few_nodes = ok.few_nodes;
  few_edges = omega (arith, length-append g.edges (e ∷ []), new.room);
  ends = All-push (λ f. (f.from < g.nodes) × (f.to < g.nodes)) g.edges e ok.ends (new.from, new.to);
  rising = IsRising-with_edge g e ok.rising new.rising;
  numbers = All-push (λ f. 1 ≤ f.number) g.edges e ok.numbers new.number;
  vars = All-push (λ f. (1 ≤ f.var) × (f.var ≤ MAX_VARS)) g.edges e ok.vars new.var;
  weights = All-push (λ f. f.weight ≤ MAX_WEIGHT) g.edges e ok.weights new.weight;
}
