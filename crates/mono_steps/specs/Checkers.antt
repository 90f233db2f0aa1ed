-- Which problems a checker of steps serves, and what it keeps between two steps.
use Rattle.std.specs.Prelude.{◌≡◌, ℕ, ◌<◌, Bool, true, false, List, length, map}
use Rattle.mono_graph.specs.Digraph.{Digraph, present}
use Rattle.mono_problem.specs.Instance.{Instance}

-- the size of a graph: how many nodes and how many edges it has
pub record GraphSize : Type 0 where
  pub nodes : ℕ
  pub edges : ℕ

abbrev pub size_of : Digraph → GraphSize
size_of g = record { nodes = g.nodes; edges = length g.edges }

-- the size of a problem: how many variables it has, and the sizes of its graphs
pub record ProblemSize : Type 0 where
  pub vars : ℕ
  pub graphs : List GraphSize

abbrev pub problem_size : Instance → ProblemSize
problem_size p = record { vars = p.vars; graphs = map (λ g. size_of g.1) p.graphs }

-- two parts of a graph with so many edges: one has no edge, the other has each
pub record AreReset (edges : ℕ) (none all : List Bool) : Type 0 where
  pub size_none : length none ≡ edges
  pub size_all : length all ≡ edges
  pub absent : (k : ℕ) → k < edges → present none k ≡ false
  pub there : (k : ℕ) → k < edges → present all k ≡ true
