-- A problem of two graphs for the worked rows.
use Rattle.std.specs.Prelude.{ℕ, ℤ, pos, List, [], ◌∷◌}
use Rattle.mono_graph.specs.Digraph.{Digraph}
use Rattle.mono_graph.specs.Worked.{edge_of, single, pipe}
use Rattle.mono_problem.specs.declared.atom.Atom.{Atom}
use Rattle.mono_problem.specs.declared.atom.Predicate.TheVariants as kind
use Rattle.mono_problem.specs.Instance.{Instance}
use Rattle.mono_problem.specs.Worked.{minus, reaches_2}

-- a walk leads over the edge of the second graph: variable 6
abbrev pub over_second : Atom
over_second = record { number = 2; graph = 1; var = 6; predicate = kind.Reach 0 1 }

-- the first graph has two edges. The edge of the second one has the number 3 and the variable 4
abbrev pub two_graphs : Instance
two_graphs = record {
  vars = 6;
  graphs = (8, pipe 3 2) ∷ (5, single (edge_of 3 0 1 4 7)) ∷ [];
  atoms = reaches_2 ∷ over_second ∷ [];
  clauses = (pos 1 ∷ minus 6 ∷ []) ∷ [] ∷ [];
}

-- these graphs alone, and the problem above with this predicate alone, or with these clauses
abbrev pub of_graphs : List (ℕ × Digraph) → Instance
of_graphs gs = record { vars = 6; graphs = gs; atoms = []; clauses = [] }

abbrev pub asks_only : Atom → Instance
asks_only x = record two_graphs { atoms = x ∷ [] }

abbrev pub of_clauses : List (List ℤ) → Instance
of_clauses cs = record two_graphs { clauses = cs }
