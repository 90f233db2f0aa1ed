-- Edges between a set and the rest, where the nodes of the set are marked.
use Rattle.std.specs.Prelude.{ℕ, Bool, false, not, ◌&&◌, ◌||◌, List, slice_index_or}
use Rattle.std.specs.List.{list_all}
use Rattle.mono_graph.specs.Digraph.{Digraph, edge_at, present, leaving, entering}

abbrev pub is_marked : List Bool → ℕ → Bool
is_marked inside u = slice_index_or inside u false

-- the edge is present, and one of its ends alone is marked
abbrev pub crosses_by : List Bool → Digraph → List Bool → ℕ → Bool
crosses_by inside g P k =
    present P k
    && ((is_marked inside (edge_at g k).from && not (is_marked inside (edge_at g k).to))
    || (is_marked inside (edge_at g k).to && not (is_marked inside (edge_at g k).from)))

-- no edge at the node is such
abbrev pub is_closed_at : List Bool → Digraph → List Bool → ℕ → Bool
is_closed_at inside g P u = list_all (λ k. not (crosses_by inside g P k)) (leaving g u) && list_all (λ k. not (crosses_by inside g P k)) (entering g u)
