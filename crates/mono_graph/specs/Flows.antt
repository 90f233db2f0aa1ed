-- Flows, and the sets of nodes that bound their values.
use Rattle.std.specs.Prelude.{ℕ, ◌==◌, Bool, not, ◌&&◌, ◌||◌, ℤ, pos, ◌-ℤ◌, int_lt, int_le, List, [], ◌∷◌, map, sum_by, nat_le, if◌then◌else◌}
use Rattle.std.specs.List.{list_all}
use Rattle.mono_graph.specs.declared.amount.Amount.{Amount}
use Rattle.mono_graph.specs.Digraph.{Digraph, edge_at, present, present_by, places, nodes_of, leaving, entering, leads_out, weight_of, has, is_distinct}

-- what the edges that leave a node carry, and those that enter it
abbrev pub outflow : Digraph → (ℕ → ℕ) → ℕ → ℕ
outflow g f u = sum_by f (leaving g u)

abbrev pub inflow : Digraph → (ℕ → ℕ) → ℕ → ℕ
inflow g f u = sum_by f (entering g u)

-- each edge carries at most its weight, and one that isn't present carries nothing
abbrev pub is_within : Digraph → List Bool → (ℕ → ℕ) → Bool
is_within g P f = list_all (λ k. nat_le (f k) (if present P k then (edge_at g k).weight else 0)) (places g)

-- at each node other than the source s and the sink t the inflow equals the outflow
abbrev pub is_conserved : Digraph → ℕ → ℕ → (ℕ → ℕ) → Bool
is_conserved g s t f = list_all (λ u. u == s || u == t || inflow g f u == outflow g f u) (nodes_of g)

-- a flow in the part gives each place an amount
abbrev pub is_flow : Digraph → List Bool → ℕ → ℕ → (ℕ → ℕ) → Bool
is_flow g P s t f = is_within g P f && is_conserved g s t f

abbrev pub value_of : Digraph → ℕ → (ℕ → ℕ) → ℤ
value_of g s f = pos (outflow g f s) -ℤ pos (inflow g f s)

-- the amount at a place: the one that is listed, or 0
abbrev pub amount_at : List Amount → ℕ → ℕ
amount_at [] k = 0
amount_at (a ∷ rest) k = if a.edge == k then a.amount else amount_at rest k

-- no edge is listed twice, and the amounts are a flow of at least this value
abbrev pub is_flow_of : Digraph → List Bool → ℕ → ℕ → ℤ → List Amount → Bool
is_flow_of g P s t least amounts =
    is_distinct (map (λ a. a.edge) amounts) && is_flow g P s t (amount_at amounts) && int_le least (value_of g s (amount_at amounts))

-- the set has s and lacks t, and the present edges that leave it weigh less than this in sum
abbrev pub is_flow_cut : Digraph → List Bool → ℕ → ℕ → ℤ → List ℕ → Bool
is_flow_cut g P s t least set = has set s && not (has set t) && int_lt (pos (weight_of g (present_by (leads_out set) g P))) least
