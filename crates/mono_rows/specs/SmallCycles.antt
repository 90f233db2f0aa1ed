-- Small graphs with cycles, and a predicate over one.
use Rattle.std.specs.Prelude.{[], ◌∷◌}
use Rattle.mono_graph.specs.Digraph.{Digraph}
use Rattle.mono_graph.specs.Worked.{edge}
use Rattle.mono_problem.specs.declared.atom.Atom.{Atom}
use Rattle.mono_problem.specs.declared.atom.Predicate.TheVariants as kind

-- from node 0 to node 1 and back, and to node 2 and back
abbrev pub eight : Digraph
eight = record { nodes = 3; edges = edge 1 0 1 1 ∷ edge 2 1 0 1 ∷ edge 3 0 2 1 ∷ edge 4 2 0 1 ∷ [] }

-- to node 1, which has an edge to itself, and back
abbrev pub behind_a_loop : Digraph
behind_a_loop = record { nodes = 2; edges = edge 1 0 1 1 ∷ edge 2 1 1 1 ∷ edge 3 1 0 1 ∷ [] }

-- there is no cycle: variable 3
abbrev pub has_no_cycle : Atom
has_no_cycle = record { number = 1; graph = 0; var = 3; predicate = kind.Acyclic }
