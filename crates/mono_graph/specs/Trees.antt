-- Spanning trees, and what shows that there is none, or none that light. Directions are ignored: an edge is taken either way.
use Rattle.std.specs.Prelude.{ℕ, zero, suc, ◌+◌, ◌==◌, Bool, not, ◌&&◌, ◌||◌, ℤ, pos, int_lt, int_le, List, [], ◌∷◌, length, map, filter, nat_le, if◌then◌else◌, Contains, IsTrue}
use Rattle.std.specs.List.{list_all, list_any, range_with_len, AllByRecursion}
use Rattle.mono_graph.specs.declared.edge.Edge.{Edge}
use Rattle.mono_graph.specs.Digraph.{Digraph, edge_at, present, places, is_place, nodes_of, crosses, weight_of, has, is_distinct}

-- where a step along an edge starts and ends, taken forwards or back
abbrev pub start_of : Edge × Bool → ℕ
start_of (e, back) = if back then e.to else e.from

abbrev pub end_of : Edge × Bool → ℕ
end_of (e, back) = if back then e.from else e.to

-- the steps lead from u to v
abbrev pub leads_either : ℕ → List (Edge × Bool) → ℕ → Bool
leads_either u [] v = u == v
leads_either u (s ∷ ss) v = start_of s == u && leads_either (end_of s) ss v

-- the steps go along edges of the list, and lead from u to v
pub record IsRoute (es : List Edge) (u : ℕ) (route : List (Edge × Bool)) (v : ℕ) : Type 0 where
  pub edges : AllByRecursion (λ s. Contains es s.0) route
  pub way : IsTrue (leads_either u route v)

-- The edges join u and v: a route leads from u to v. It goes over the later edges alone, or once over the first.
abbrev pub joins : List Edge → ℕ → ℕ → Bool
joins [] u v = u == v
joins (e ∷ es) u v = joins es u v || (joins es u e.from && joins es e.to v) || (joins es u e.to && joins es e.from v)

-- how many numbers below n pass a test
abbrev pub count_below : (ℕ → Bool) → ℕ → ℕ
count_below p zero = 0
count_below p (suc n) = count_below p n + (if p n then 1 else 0)

-- the edges join the node with no smaller one
abbrev pub is_first : List Edge → ℕ → Bool
is_first es u = list_all (λ v. not (joins es v u)) (range_with_len 0 u)

-- the number of components into which the edges part the nodes below n: each has one first node
abbrev pub component_count : List Edge → ℕ → ℕ
component_count es n = count_below (is_first es) n

abbrev pub edges_at : Digraph → List ℕ → List Edge
edges_at g ks = map (edge_at g) ks

-- n - 1 different edges of the graph of n nodes that join every node to node 0
abbrev pub is_spanning_tree : Digraph → List ℕ → Bool
is_spanning_tree g ks =
    suc (length ks) == g.nodes && is_distinct ks && list_all (is_place g) ks && list_all (joins (edges_at g ks) 0) (nodes_of g)

-- a spanning tree in the part of at most this weight
abbrev pub is_tree : Digraph → List Bool → ℤ → List ℕ → Bool
is_tree g P most ks = list_all (present P) ks && is_spanning_tree g ks && int_le (pos (weight_of g ks)) most

-- the set has a node and lacks a node, and no present edge joins it with the rest
abbrev pub is_split : Digraph → List Bool → List ℕ → Bool
is_split g P s =
    list_any (has s) (nodes_of g) && not (list_all (has s) (nodes_of g)) && list_all (λ k. not (present P k && crosses s (edge_at g k))) (places g)

-- the tree joins the ends of the edge by edges no heavier than it
abbrev pub is_bridged : Digraph → List ℕ → Edge → Bool
is_bridged g ks e = joins (filter (λ t. nat_le t.weight e.weight) (edges_at g ks)) e.from e.to

-- a spanning tree of the graph, its edges present or not, of more than this weight, which bridges every present edge
abbrev pub is_least : Digraph → List Bool → ℤ → List ℕ → Bool
is_least g P most ks =
    is_spanning_tree g ks && int_lt most (pos (weight_of g ks)) && list_all (λ k. not (present P k) || is_bridged g ks (edge_at g k)) (places g)
