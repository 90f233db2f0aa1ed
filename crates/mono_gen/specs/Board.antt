-- A board of n rows of n nodes each, with edges between neighbours. An edge is the node it comes from and the node it leads to.
use Rattle.std.specs.Prelude.{ℕ, ◌+◌, ◌-◌, ◌*◌, Bool, nat_lt, if◌then◌else◌, List, [], ◌∷◌, ◌++◌}
use Rattle.mono_gen.specs.Joined.{joined}

-- the node in row r and column q, both from 0 to n - 1
abbrev pub node : ℕ → ℕ → ℕ → ℕ
node n r q = r * n + q

-- an edge, where it exists
abbrev pub edge_where : Bool → ℕ → ℕ → List (ℕ × ℕ)
edge_where exists from to = if exists then (from, to) ∷ [] else []

-- the edges from a node, to its neighbours right, down, left and up
abbrev pub edges_from : ℕ → ℕ → ℕ → List (ℕ × ℕ)
edges_from n r q =
    edge_where (nat_lt (q + 1) n) (node n r q) (node n r (q + 1))
    ++ edge_where (nat_lt (r + 1) n) (node n r q) (node n (r + 1) q)
    ++ edge_where (nat_lt 0 q) (node n r q) (node n r (q - 1))
    ++ edge_where (nat_lt 0 r) (node n r q) (node n (r - 1) q)

-- the edges from the nodes of a row, and from those of all rows
abbrev pub edges_of_row : ℕ → ℕ → List (ℕ × ℕ)
edges_of_row n r = joined (λ q. edges_from n r q) n

abbrev pub edges_of : ℕ → List (ℕ × ℕ)
edges_of n = joined (λ r. edges_of_row n r) n

-- how many they are
abbrev pub edge_count : ℕ → ℕ
edge_count n = 4 * n * (n - 1)
