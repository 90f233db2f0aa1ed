-- Small graphs for the worked rows.
use Rattle.std.specs.Prelude.{ℕ, Bool, true, false, List, [], ◌∷◌}
use Rattle.mono_graph.specs.declared.edge.Edge.{Edge}
use Rattle.mono_graph.specs.declared.label.Label.{Label}
use Rattle.mono_graph.specs.declared.amount.Amount.{Amount}
use Rattle.mono_graph.specs.Digraph.{Digraph}

abbrev pub edge : ℕ → ℕ → ℕ → ℕ → Edge
edge n u v w = record { number = n; from = u; to = v; var = n; weight = w }

abbrev pub label : ℕ → ℕ → Label
label u n = record { node = u; value = n }

abbrev pub amount : ℕ → ℕ → Amount
amount k n = record { edge = k; amount = n }

-- with a variable of its own
abbrev pub edge_of : ℕ → ℕ → ℕ → ℕ → ℕ → Edge
edge_of n u v x w = record { number = n; from = u; to = v; var = x; weight = w }

-- two nodes and one edge
abbrev pub single : Edge → Digraph
single e = record { nodes = 2; edges = e ∷ [] }

-- there and back between two nodes
abbrev pub round_trip : ℕ → ℕ → Digraph
round_trip there back = record { nodes = 2; edges = edge 1 0 1 there ∷ edge 2 1 0 back ∷ [] }

-- two edges from node 0 to node 1
abbrev pub parallel : ℕ → ℕ → Digraph
parallel w w' = record { nodes = 2; edges = edge 1 0 1 w ∷ edge 2 0 1 w' ∷ [] }

-- one node and no edge, and one node with an edge to itself
abbrev pub lone : Digraph
lone = record { nodes = 1; edges = [] }

abbrev pub looped : Digraph
looped = record { nodes = 1; edges = edge 1 0 0 5 ∷ [] }

-- three nodes, each two joined, with gaps in the numbers
abbrev pub triangle : ℕ → ℕ → ℕ → Digraph
triangle w w' w'' = record { nodes = 3; edges = edge 3 0 1 w ∷ edge 7 1 2 w' ∷ edge 9 2 0 w'' ∷ [] }

-- a triangle, and a fourth node that one edge joins with it
abbrev pub kite : Digraph
kite = record { nodes = 4; edges = edge 1 0 1 1 ∷ edge 2 1 2 2 ∷ edge 3 2 0 4 ∷ edge 4 2 3 1 ∷ [] }

-- from node 0 over node 1 to node 2
abbrev pub pipe : ℕ → ℕ → Digraph
pipe w w' = record { nodes = 3; edges = edge 1 0 1 w ∷ edge 2 1 2 w' ∷ [] }

abbrev pub both : List Bool
both = true ∷ true ∷ []

abbrev pub first_alone : List Bool
first_alone = true ∷ false ∷ []

abbrev pub last_alone : List Bool
last_alone = false ∷ true ∷ []

abbrev pub neither : List Bool
neither = false ∷ false ∷ []

abbrev pub all_three : List Bool
all_three = true ∷ true ∷ true ∷ []
