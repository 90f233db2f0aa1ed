-- Problems for the worked rows on cycles.
use Rattle.std.specs.Prelude.{ℤ, List, [], ◌∷◌}
use Rattle.mono_graph.specs.Worked.{lone, looped, round_trip}
use Rattle.mono_problem.specs.declared.atom.Atom.{Atom}
use Rattle.mono_problem.specs.declared.atom.Predicate.TheVariants as kind
use Rattle.mono_problem.specs.Instance.{Instance}
use Rattle.mono_steps.specs.WorkedLemmas.{asks}

-- with these clauses: edge 1 leads from node 0 to node 1 where variable 1 is true, edge 2 back where variable 2 is; variable 3
-- says that there is no cycle
abbrev pub there_and_back : List (List ℤ) → Instance
there_and_back cs = record (asks (round_trip 1 1) kind.Acyclic 3) { vars = 3; clauses = cs }

-- with these clauses: one node, with an edge to itself where variable 1 is true; variable 2 says that there is no cycle
abbrev pub to_itself : List (List ℤ) → Instance
to_itself cs = record (asks looped kind.Acyclic 2) { vars = 2; clauses = cs }

-- with these clauses: one node and no edge; variable 1 says that there is no cycle
abbrev pub alone : List (List ℤ) → Instance
alone cs = record (asks lone kind.Acyclic 1) { vars = 1; clauses = cs }

-- node 0 reaches node 1, and there is no cycle
abbrev pub reaches_1 : Atom
reaches_1 = record { number = 1; graph = 0; var = 3; predicate = kind.Reach 0 1 }

abbrev pub has_no_cycle : Atom
has_no_cycle = record { number = 2; graph = 0; var = 4; predicate = kind.Acyclic }

-- edge 1 leads from node 0 to node 1 where variable 1 is true, edge 2 back where variable 2 is; both predicates are over them
abbrev pub two_predicates : Instance
two_predicates = record { vars = 4; graphs = (0, round_trip 1 1) ∷ []; atoms = reaches_1 ∷ has_no_cycle ∷ []; clauses = [] }
