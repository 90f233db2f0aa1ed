-- A problem of two graphs for the worked lemmas.
use Rattle.std.specs.Prelude.{ℕ, [], ◌∷◌}
use Rattle.mono_graph.specs.Digraph.{Digraph}
use Rattle.mono_problem.specs.declared.atom.Predicate.{Predicate}
use Rattle.mono_problem.specs.Instance.{Instance}

-- ten variables, and one predicate, which is over the second graph
abbrev pub asks_of_second : Digraph → Digraph → Predicate → ℕ → Instance
asks_of_second g h q x = record {
  vars = 10;
  graphs = (0, g) ∷ (1, h) ∷ [];
  atoms = record { number = 1; graph = 1; var = x; predicate = q } ∷ [];
  clauses = [];
}
