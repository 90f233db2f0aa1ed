-- What the edges of a part can carry, and how much more where a flow carries something already.
use Rattle.std.specs.Prelude.{ℕ, ◌-◌, Bool, List, slice_index_or, if◌then◌else◌}
use Rattle.mono_graph.specs.declared.edge.Edge.{Edge}
use Rattle.mono_graph.specs.Digraph.{Digraph, present, edge_at}

-- what a list of amounts says of a place
abbrev pub amount_of : List ℕ → ℕ → ℕ
amount_of fs k = slice_index_or fs k 0

-- what an edge can carry in the part
abbrev pub capacity : Digraph → List Bool → ℕ → ℕ
capacity g P k = if present P k then (edge_at g k).weight else 0

-- how much more can be carried along the edge, or, against its direction, how much less
abbrev pub residual_at : Digraph → List Bool → (ℕ → ℕ) → ℕ → Bool → ℕ
residual_at g P f k back = if back then f k else (capacity g P k - f k)

-- where the edge starts and ends, taken in its direction or against it
abbrev pub start_of : Edge → Bool → ℕ
start_of e back = if back then e.to else e.from

abbrev pub end_of : Edge → Bool → ℕ
end_of e back = if back then e.from else e.to
