-- Small graphs with edges from a node to itself.
use Rattle.std.specs.Prelude.{ℕ, [], ◌∷◌}
use Rattle.mono_graph.specs.Digraph.{Digraph}
use Rattle.mono_graph.specs.Worked.{edge}

-- from node 0 to itself, and to node 1
abbrev pub loop_first : ℕ → ℕ → Digraph
loop_first w w' = record { nodes = 2; edges = edge 1 0 0 w ∷ edge 2 0 1 w' ∷ [] }

-- from node 0 to node 1, and from there to itself
abbrev pub loop_last : ℕ → ℕ → Digraph
loop_last w w' = record { nodes = 2; edges = edge 1 0 1 w ∷ edge 2 1 1 w' ∷ [] }

-- from node 0 to node 1, from there to itself, and to node 2
abbrev pub loop_within : Digraph
loop_within = record { nodes = 3; edges = edge 1 0 1 9 ∷ edge 2 1 1 9 ∷ edge 3 1 2 9 ∷ [] }
