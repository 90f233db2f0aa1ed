-- What answers to small problems come to, for rows that are worked out.
use Rattle.std.specs.Prelude.{ℕ, ℤ, pos, negsuc, true, List, [], ◌∷◌}
use Rattle.mono_graph.specs.declared.edge.Edge.{Edge}
use Rattle.mono_problem.specs.Instance.{Instance}
use Rattle.mono_problem.specs.declared.atom.Predicate.TheVariants as kind
use Rattle.mono_check.specs.Checking.{later}
use Rattle.mono_check.specs.SoFar.{SoFar}
use Rattle.mono_check.specs.Verdicts.{Outcome, outcome_of}

-- the problem of the variables 1 to `vars` without clauses
abbrev pub alone : ℕ → Instance
alone vars = record { vars = vars; graphs = []; atoms = []; clauses = [] }

-- over the problem of these clauses and the variables 1 to `vars`
abbrev pub judged : ℕ → List (List ℤ) → List ℕ → Outcome
judged vars cs text = outcome_of (record { vars = vars; graphs = []; atoms = []; clauses = cs }) text

-- the edge of the number n from one node to another, present where variable n is true
abbrev pub edge : ℕ → ℕ → ℕ → Edge
edge n from to = record { number = n; from = from; to = to; var = n; weight = 1 }

-- edge 1 from node 0 to node 1, edge 2 from node 1 to node 2; variable 3 says that node 0 reaches node 2
abbrev pub two_edges : List (List ℤ) → Instance
two_edges cs = record {
  vars = 3;
  graphs = (0, record { nodes = 3; edges = edge 1 0 1 ∷ edge 2 1 2 ∷ [] }) ∷ [];
  atoms = record { number = 1; graph = 0; var = 3; predicate = kind.Reach 0 2 } ∷ [];
  clauses = cs;
}

-- over these edges and the clauses {1}, {2} and {-3}, which the predicate contradicts
abbrev pub reached : List ℕ → Outcome
reached text = outcome_of (two_edges ((pos 1 ∷ []) ∷ (pos 2 ∷ []) ∷ (negsuc 2 ∷ []) ∷ [])) text

-- behind what the lines so far have said over the clauses {1} and {-1}, so many lines, and the bytes of the next one that have come:
-- what the answer comes to once these bytes follow
abbrev pub left : SoFar → ℕ → List ℕ → List ℕ → Outcome
left so_far lines unfinished rest = later (record {
  problem = record { vars = 1; graphs = []; atoms = []; clauses = (pos 1 ∷ []) ∷ (negsuc 0 ∷ []) ∷ [] };
  judging = record { so_far = so_far; lines = lines; unfinished = unfinished };
  fed = 0;
  is_live = true;
}) rest
