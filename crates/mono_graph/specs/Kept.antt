-- What a graph keeps: its edges, and for each node the places of those that leave it and of those that enter it.
use Rattle.std.specs.Prelude.{◌≡◌, ℕ, ◌<◌, [], List, length, slice_index_or}
use Rattle.mono_graph.specs.declared.graph.Graph.TheInside.{Inside}
use Rattle.mono_graph.specs.declared.edge.Edge.{Edge}
use Rattle.mono_graph.specs.Digraph.{Digraph, IsGraph, places_by}

abbrev pub shown : Inside → Digraph
shown g = record { nodes = g.nodes; edges = g.edges.items }

-- there is a list for each node, with the places of the edges that have it as this end
pub record AreListed (end : Edge → ℕ) (g : Digraph) (lists : List (List ℕ)) : Type 0 where
  pub len : length lists ≡ g.nodes
  pub each : (u : ℕ) → u < g.nodes → slice_index_or lists u [] ≡ places_by end g u

pub record IsInStep (g : Inside) : Type 0 where
  pub graph : IsGraph (shown g)
  pub leaving : AreListed (λ e. e.from) (shown g) g.leaving
  pub entering : AreListed (λ e. e.to) (shown g) g.entering
