-- Walks, and what shows that there is none: sets of nodes that no walk leaves, and labels that bound what walks cost.
use Rattle.std.specs.Prelude.{ℕ, Bool, true, not, ◌&&◌, ℤ, pos, negsuc, ◌+ℤ◌, ◌≤ℤ◌, int_lt, int_le, List, [], ◌∷◌, length, map, sum_by, ◌==◌, if◌then◌else◌}
use Rattle.std.specs.Ordering.{int_eq}
use Rattle.std.specs.List.{list_all}
use Rattle.mono_base.specs.declared.limits.TheConstants.{MAX_BOUND}
use Rattle.mono_graph.specs.declared.edge.Edge.{Edge}
use Rattle.mono_graph.specs.declared.label.Label.{Label}
use Rattle.mono_graph.specs.declared.limit.Limit.{Limit}
use Rattle.mono_graph.specs.declared.limit.Limit.TheVariants as limit
use Rattle.mono_graph.specs.Digraph.{Digraph, edge_at, present, places, is_place, leads_out, weight_of, has, is_distinct}

-- Each edge begins where the one before ended. They lead from the beginning u of the first to the end v of the last.
-- The empty list leads from each node to itself.
abbrev pub leads : Digraph → ℕ → List ℕ → ℕ → Bool
leads g u [] v = u == v
leads g u (k ∷ ks) v = (edge_at g k).from == u && leads g (edge_at g k).to ks v

-- a walk of present edges of the graph from u to v. An edge may occur again
abbrev pub is_walk : Digraph → List Bool → ℕ → ℕ → List ℕ → Bool
is_walk g P u v ks = list_all (is_place g) ks && list_all (present P) ks && leads g u ks v

-- a walk may have any cost, at most so many edges, or at most so much weight
abbrev pub is_light : Limit → Digraph → List ℕ → Bool
is_light limit.Free g ks = true
is_light (limit.Steps most) g ks = int_le (pos (length ks)) most
is_light (limit.Weight most) g ks = int_le (pos (weight_of g ks)) most

-- a walk within the limit
abbrev pub is_path : Digraph → List Bool → ℕ → ℕ → Limit → List ℕ → Bool
is_path g P u v l ks = is_walk g P u v ks && is_light l g ks

-- the set has u and lacks v, and no present edge leaves it
abbrev pub is_cut : Digraph → List Bool → ℕ → ℕ → List ℕ → Bool
is_cut g P u v s = has s u && not (has s v) && list_all (λ k. not (present P k && leads_out s (edge_at g k))) (places g)

-- ---- labels

-- the bound of a limit, and what an edge counts towards it
abbrev pub bound_of : Limit → ℤ
bound_of limit.Free = pos 0
bound_of (limit.Steps most) = most
bound_of (limit.Weight most) = most

abbrev pub cost_of : Limit → Edge → ℕ
cost_of limit.Free e = 0
cost_of (limit.Steps most) e = 1
cost_of (limit.Weight most) e = e.weight

-- a walk that costs so much is within the limit. Where nothing counts, each walk costs 0
abbrev pub admits : Limit → ℕ → Bool
admits l cost = int_le (pos cost) (bound_of l)

-- the limit has no bound, or one from -1 to the greatest that a predicate may have
abbrev pub IsBounded : Limit → Type 0
IsBounded limit.Free = Unit {0}
IsBounded (limit.Steps most) = (negsuc 0 ≤ℤ most) × (most ≤ℤ pos MAX_BOUND)
IsBounded (limit.Weight most) = (negsuc 0 ≤ℤ most) × (most ≤ℤ pos MAX_BOUND)

-- what the edges cost together
abbrev pub cost_along : Limit → Digraph → List ℕ → ℕ
cost_along limit g ks = sum_by (λ k. cost_of limit (edge_at g k)) ks

-- the label of a node: the one that is listed, or one more than the bound
abbrev pub label_at : List Label → ℤ → ℕ → ℤ
label_at [] most u = most +ℤ pos 1
label_at (l ∷ ls) most u = if l.node == u then pos l.value else label_at ls most u

-- the label rises along the edge by more than the edge costs
abbrev pub is_tense : (ℕ → ℤ) → Limit → Edge → Bool
is_tense label l e = int_lt (label e.from +ℤ pos (cost_of l e)) (label e.to)

-- no node is listed twice, u has label 0, v has a label above the bound, and no present edge is tense
abbrev pub is_labelling : Digraph → List Bool → ℕ → ℕ → Limit → List Label → Bool
is_labelling g P u v l ls =
    let label = label_at ls (bound_of l) in
    is_distinct (map (λ l. l.node) ls) && int_eq (label u) (pos 0) && int_lt (bound_of l) (label v)
    && list_all (λ k. not (present P k && is_tense label l (edge_at g k))) (places g)
