-- What statements declare, in order.
use Rattle.std.specs.Prelude.{ℕ, List, filter_map, Option, Some, None, option_map, slice_index_or}
use Rattle.mono_problem.specs.declared.atom.Predicate.{Predicate}
use Rattle.mono_problem.specs.Instance.{place_named}
use Rattle.mono_gnf.specs.declared.statement.Statement.{Statement}
use Rattle.mono_gnf.specs.declared.statement.Statement.TheVariants as says

-- graphs are named by their identities
pub record EdgeLine : Type 0 where
  pub graph : ℕ
  pub from : ℕ
  pub to : ℕ
  pub var : ℕ
  pub weight : ℕ

pub record AtomLine : Type 0 where
  pub graph : ℕ
  pub var : ℕ
  pub predicate : Predicate

abbrev pub header_in : Statement → Option ℕ
header_in (says.Header vars) = Some vars
header_in (says.Graph id nodes) = None
header_in (says.Edge id from to var weight) = None
header_in (says.Atom id var predicate) = None

abbrev pub graph_in : Statement → Option (ℕ × ℕ)
graph_in (says.Header vars) = None
graph_in (says.Graph id nodes) = Some (id, nodes)
graph_in (says.Edge id from to var weight) = None
graph_in (says.Atom id var predicate) = None

abbrev pub edge_in : Statement → Option EdgeLine
edge_in (says.Header vars) = None
edge_in (says.Graph id nodes) = None
edge_in (says.Edge id from to var weight) = Some (record { graph = id; from = from; to = to; var = var; weight = weight })
edge_in (says.Atom id var predicate) = None

abbrev pub atom_in : Statement → Option AtomLine
atom_in (says.Header vars) = None
atom_in (says.Graph id nodes) = None
atom_in (says.Edge id from to var weight) = None
atom_in (says.Atom id var predicate) = Some (record { graph = id; var = var; predicate = predicate })

-- the numbers of variables of headers; the identities of graphs, each with its number of nodes; edges; predicates
abbrev pub headers : List Statement → List ℕ
headers statements = filter_map header_in statements

abbrev pub graphs : List Statement → List (ℕ × ℕ)
graphs statements = filter_map graph_in statements

abbrev pub edges : List Statement → List EdgeLine
edges statements = filter_map edge_in statements

abbrev pub atoms : List Statement → List AtomLine
atoms statements = filter_map atom_in statements

-- the number of nodes of the graph at a place, and of the graph with an identity
abbrev pub nodes_at : List (ℕ × ℕ) → ℕ → ℕ
nodes_at gs k = (slice_index_or gs k (0, 0)).1

abbrev pub nodes_named : List (ℕ × ℕ) → ℕ → Option ℕ
nodes_named gs id = option_map (λ k. nodes_at gs k) (place_named gs id)
