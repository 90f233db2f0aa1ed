use Rattle.std.proofs.Common.{◌≤◌, [], arith}
use Rattle.std.proofs.lemmas.List.Elements.{All-nil, All-cons}
use Rattle.mono_graph.specs.declared.edge.Edge.{Edge}
use Rattle.mono_graph.specs.Worked.{edge_of, single}
use Rattle.mono_rows.proofs.InstanceRows.{both_graphs}
use Rattle.mono_rows.proofs.limits.graphs_at_the_limits.Goals as goal

pub returns : goal.returns
returns c = record {
  all = record {
    identity = omega arith;
    graph = (both_graphs.graphs 1 (5, single (edge_of 3 0 1 4 7)) (omega arith)).graph;
    within = All-cons (λ (e : Edge). (e.var ≤ 4) × (e.number ≤ 3)) (edge_of 3 0 1 4 7) [] (omega arith, omega arith) (All-nil (λ (e : Edge). (e.var ≤ 4) × (e.number ≤ 3)));
  };
}
