-- The problems that a draft can make: within the limits, and all that is named is there.
use Rattle.std.specs.Prelude.{◌≡◌, ◌≢◌, ℕ, ◌+◌, ◌^◌, ◌<◌, ◌≤◌, ◌==◌, ℤ, pos, negsuc, ◌≤ℤ◌, List, length, count_by, sum_by, Some, slice_index_or, All}
use Rattle.mono_base.specs.declared.limits.TheConstants.{MAX_VARS, MAX_GRAPHS, MAX_NODES, MAX_EDGES, MAX_ATOMS, MAX_CLAUSES, MAX_LITERALS, MAX_BOUND}
pub use Rattle.mono_base.specs.Literal.{IsLitWithin}
use Rattle.mono_graph.specs.Digraph.{Digraph, IsGraph}
use Rattle.mono_problem.specs.declared.atom.Predicate.{Predicate}
use Rattle.mono_problem.specs.declared.atom.Predicate.TheVariants as kind
use Rattle.mono_problem.specs.declared.atom.Atom.{Atom}
use Rattle.mono_problem.specs.Instance.{Instance, no_graph, graph_at, identity_at, place_named, nodes_total, edges_total, literals_total}

-- a bound on a number of edges or on a weight, -1 for one that is never met; a bound on a flow
abbrev pub IsMost : ℤ → Type 0
IsMost k = (negsuc 0 ≤ℤ k) × (k ≤ℤ pos MAX_BOUND)

abbrev pub IsLeast : ℤ → Type 0
IsLeast f = (pos 0 ≤ℤ f) × (f ≤ℤ pos (MAX_BOUND + 1))

-- the predicate's nodes are the graph's, a flow's source and sink differ, and its bound is within the limits
abbrev pub IsOver : Digraph → Predicate → Type 0
IsOver g (kind.Reach u v) = (u < g.nodes) × (v < g.nodes)
IsOver g (kind.Steps u v most) = (u < g.nodes) × (v < g.nodes) × IsMost most
IsOver g (kind.Distance u v most) = (u < g.nodes) × (v < g.nodes) × IsMost most
IsOver g (kind.Flow s t least) = (s < g.nodes) × (t < g.nodes) × (s ≢ t) × IsLeast least
IsOver g (kind.Tree most) = IsMost most
IsOver g kind.Acyclic = Unit {0}

-- a graph of a problem with so many variables and edges
pub record IsDeclared (vars edges : ℕ) (g : ℕ × Digraph) : Type 0 where
  pub identity : g.0 < 2 ^ 32
  pub graph : IsGraph g.1
  pub within : All (λ e. (e.var ≤ vars) × (e.number ≤ edges)) g.1.edges

-- the atom that stands at a place
pub record IsAtomAt (p : Instance) (k : ℕ) (x : Atom) : Type 0 where
  pub number : x.number ≡ k + 1
  pub graph : x.graph < length p.graphs
  pub over : IsOver (graph_at p x.graph) x.predicate
  pub low : 0 < x.var
  pub high : x.var ≤ p.vars

-- how many edges have the number
abbrev pub count_numbered : ℕ → List (ℕ × Digraph) → ℕ
count_numbered n gs = sum_by (λ g. count_by (λ e. e.number == n) g.1.edges) gs

pub record IsInstance (p : Instance) : Type 0 where
  pub vars : p.vars ≤ MAX_VARS
  pub few_graphs : length p.graphs ≤ MAX_GRAPHS
  pub few_nodes : nodes_total p ≤ MAX_NODES
  pub few_edges : edges_total p ≤ MAX_EDGES
  pub few_atoms : length p.atoms ≤ MAX_ATOMS
  pub few_clauses : length p.clauses ≤ MAX_CLAUSES
  pub few_literals : literals_total p ≤ MAX_LITERALS
  -- identities differ: the graph at each place is the first with its identity
  pub identities : (k : ℕ) → k < length p.graphs → place_named p.graphs (identity_at p k) ≡ Some k
  pub graphs : All (IsDeclared p.vars (edges_total p)) p.graphs
  -- each number from 1 to the number of edges is on exactly one edge
  pub numbers : (n : ℕ) → 0 < n → n ≤ edges_total p → count_numbered n p.graphs ≡ 1
  pub atoms : (k : ℕ) (d : Atom) → k < length p.atoms → IsAtomAt p k (slice_index_or p.atoms k d)
  pub clauses : All (All (IsLitWithin p.vars)) p.clauses

-- the graph at each place is the first with its identity
abbrev pub AreNamed : List (ℕ × Digraph) → Type 0
AreNamed gs = (k : ℕ) → k < length gs → place_named gs (slice_index_or gs k no_graph).0 ≡ Some k
