-- A small problem for the worked rows.
use Rattle.std.specs.Prelude.{ℕ, Bool, ℤ, pos, neg_ℤ, List, [], ◌∷◌}
use Rattle.mono_graph.specs.Digraph.{has}
use Rattle.mono_graph.specs.Worked.{pipe}
use Rattle.mono_problem.specs.declared.atom.Atom.{Atom}
use Rattle.mono_problem.specs.declared.atom.Predicate.TheVariants as kind
use Rattle.mono_problem.specs.Instance.{Instance}

-- the literal of a variable that is false
abbrev pub minus : ℕ → ℤ
minus x = neg_ℤ (pos x)

-- a walk leads from node 0 to node 2: variable 5
abbrev pub reaches_2 : Atom
reaches_2 = record { number = 1; graph = 0; var = 5; predicate = kind.Reach 0 2 }

-- over the edges from node 0 over node 1 to node 2, with the variables 1 and 2, and these clauses
abbrev pub piped : List (List ℤ) → Instance
piped cs = record { vars = 5; graphs = (0, pipe 3 2) ∷ []; atoms = reaches_2 ∷ []; clauses = cs }

-- these variables are true, and no others
abbrev pub only : List ℕ → ℕ → Bool
only vs v = has vs v
