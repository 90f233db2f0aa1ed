-- A flow whose lost edges are taken back.
use Rattle.std.specs.Prelude.{◌≡◌, ◌<◌, All, length}
use Rattle.mono_graph.specs.Digraph.{Digraph}
use Rattle.mono_flows.specs.declared.mend.Preflow.{Preflow}

-- there is an amount for each edge, and what is to be taken back is at nodes of the graph
pub record IsPreflow (g : Digraph) (x : Preflow) : Type 0 where
  pub amounts : length x.amounts.items ≡ length g.edges
  pub touched : All (λ k. k < length g.edges) x.touched.items
  pub pending : All (λ i. i.node < g.nodes) x.pending.items
