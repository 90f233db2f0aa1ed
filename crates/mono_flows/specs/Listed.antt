-- What a list of amounts says of edges and nodes.
use Rattle.std.specs.Prelude.{ℕ, ◌==◌, Bool, ◌&&◌, ◌||◌, List, map, sum_by, nat_le, slice_index_or, if◌then◌else◌}
use Rattle.mono_graph.specs.declared.edge.Edge.{Edge}
use Rattle.mono_graph.specs.Digraph.{Digraph, edge_at}
use Rattle.mono_graph.specs.declared.amount.Amount.{Amount}
use Rattle.mono_flows.specs.Residual.{capacity}

-- the edges that are listed
abbrev pub edges_of : List Amount → List ℕ
edges_of amounts = map (λ a. a.edge) amounts

-- the edge can carry the amount
abbrev pub can_carry : Digraph → List Bool → Amount → Bool
can_carry g P a = nat_le a.amount (capacity g P a.edge)

-- what the listed edges with this end carry
abbrev pub at_end : (Edge → ℕ) → Digraph → ℕ → Amount → ℕ
at_end end g u a = if end (edge_at g a.edge) == u then a.amount else 0

abbrev pub listed_out : Digraph → List Amount → ℕ → ℕ
listed_out g amounts u = sum_by (at_end (λ e. e.from) g u) amounts

abbrev pub listed_in : Digraph → List Amount → ℕ → ℕ
listed_in g amounts u = sum_by (at_end (λ e. e.to) g u) amounts

-- the node is one of the two, or as much enters it as leaves it
abbrev pub is_balanced_at : List ℕ → List ℕ → ℕ → ℕ → ℕ → Bool
is_balanced_at out into s t u = u == s || u == t || slice_index_or into u 0 == slice_index_or out u 0

-- each end of the edge is one of the two, or as much enters it as leaves it
abbrev pub has_balanced_ends : Digraph → List ℕ → List ℕ → ℕ → ℕ → Amount → Bool
has_balanced_ends g out into s t a = is_balanced_at out into s t (edge_at g a.edge).from && is_balanced_at out into s t (edge_at g a.edge).to
