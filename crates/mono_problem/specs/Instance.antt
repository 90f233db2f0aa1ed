-- Problems: clauses, and predicates over graphs whose edges are variables.
use Rattle.std.specs.Prelude.{ℕ, zero, suc, Bool, ◌==◌, ℤ, List, [], length, map, sum_by, Option, None, slice_get, slice_index_or, position}
use Rattle.std.specs.List.{list_any}
use Rattle.mono_graph.specs.Digraph.{Digraph}
use Rattle.mono_problem.specs.declared.atom.Atom.{Atom}
use Rattle.mono_problem.specs.declared.totals.Totals.{Totals}

-- a problem. Each graph stands with its identity, in order of declaration; a clause is the list of its literals as read
pub record Instance : Type 0 where
  pub vars : ℕ
  pub graphs : List (ℕ × Digraph)
  pub atoms : List Atom
  pub clauses : List (List ℤ)

-- what stands at a place that no graph has
abbrev pub no_graph : ℕ × Digraph
no_graph = (0, record { nodes = 0; edges = [] })

-- the graph at a place, from 0 in order of declaration, and its identity
abbrev pub graph_at : Instance → ℕ → Digraph
graph_at p k = (slice_index_or p.graphs k no_graph).1

abbrev pub identity_at : Instance → ℕ → ℕ
identity_at p k = (slice_index_or p.graphs k no_graph).0

-- the place of the first item that stands with this identity
abbrev pub place_named : {A : Type 0} → List (ℕ × A) → ℕ → Option ℕ
place_named items id = position (λ k. id == k) (map (λ x. x.0) items)

-- the item of a number, from 1, if there is one
abbrev pub numbered : {A : Type 0} → List A → ℕ → Option A
numbered xs zero = None
numbered xs (suc n) = slice_get xs n

-- the graph has an edge of this number
abbrev pub has_number : Digraph → ℕ → Bool
has_number g n = list_any (λ e. e.number == n) g.edges

-- how many there are over all graphs, and over all clauses
abbrev pub nodes_total : Instance → ℕ
nodes_total p = sum_by (λ g. g.1.nodes) p.graphs

abbrev pub edges_total : Instance → ℕ
edges_total p = sum_by (λ g. length g.1.edges) p.graphs

abbrev pub literals_total : Instance → ℕ
literals_total p = sum_by (λ c. length c) p.clauses

abbrev pub totals_of : Instance → Totals
totals_of p = record {
  vars = p.vars;
  graphs = length p.graphs;
  nodes = nodes_total p;
  edges = edges_total p;
  atoms = length p.atoms;
  clauses = length p.clauses;
  literals = literals_total p;
}
