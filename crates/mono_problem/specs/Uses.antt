-- What a variable switches or stands for.
use Rattle.std.specs.Prelude.{◌≡◌, ◌<◌, ◌≤◌, ℕ, Bool, false, ◌&&◌, slice_index, slice_index_or, ◌==◌, if◌then◌else◌, List, [], ◌∷◌, ◌++◌, length, map, filter, flat_map}
use Rattle.std.specs.List.{list_any, range_with_len}
use Rattle.mono_graph.specs.Digraph.{Digraph, edge_at}
use Rattle.mono_problem.specs.declared.atom.Atom.{Atom}
use Rattle.mono_problem.specs.declared.uses.Use.{Use}
use Rattle.mono_problem.specs.declared.uses.Use.TheVariants as use_of
use Rattle.mono_problem.specs.declared.uses.VarUse.{VarUse}
use Rattle.mono_problem.specs.Instance.{Instance, no_graph}

-- the uses of the edges of a graph, which stands at the place k, in order
abbrev pub edge_use : ℕ → Digraph → ℕ → VarUse
edge_use k g j = record { var = (edge_at g j).var; at = use_of.Edge k j }

abbrev pub graph_uses : ℕ → Digraph → List VarUse
graph_uses k g = map (edge_use k g) (range_with_len 0 (length g.edges))

abbrev pub atom_use : Atom → VarUse
atom_use x = record { var = x.var; at = use_of.Atom x.number }

-- the uses of the edges of the first n graphs, graph after graph
abbrev pub edges_used : List (ℕ × Digraph) → ℕ → List VarUse
edges_used gs n = flat_map (λ k. graph_uses k (slice_index_or gs k no_graph).1) (range_with_len 0 n)

-- the uses of all variables: those of the edges, then those of the atoms
abbrev pub all_uses : Instance → List VarUse
all_uses p = edges_used p.graphs (length p.graphs) ++ map atom_use p.atoms

-- those of one variable
abbrev pub picked : ℕ → List VarUse → List Use
picked x us = map (λ u. u.at) (filter (λ u. u.var == x) us)

abbrev pub uses_of : Instance → ℕ → List Use
uses_of p x = picked x (all_uses p)

-- a use is that of the edge at the place j of the graph at the place k; some use of a list is
abbrev pub is_edge_use : ℕ → ℕ → Use → Bool
is_edge_use k j (use_of.Edge g e) = g == k && e == j
is_edge_use k j (use_of.Atom n) = false

abbrev pub has_edge_use : ℕ → ℕ → List Use → Bool
has_edge_use k j us = list_any (is_edge_use k j) us

-- the uses of x, where the variables and their uses are two lists side by side
abbrev pub chosen : ℕ → List ℕ → List Use → List Use
chosen x [] us = []
chosen x (v ∷ vs) [] = []
chosen x (v ∷ vs) (u ∷ us) = if v == x then u ∷ chosen x vs us else chosen x vs us

-- in a sorted list of variables, x stands at the places from `start` up to `end`
pub record IsRangeOf (vars : List ℕ) (x start end : ℕ) : Type 0 where
  pub below : (k : ℕ) → k < start → slice_index vars k < x
  pub at : (k : ℕ) → start ≤ k → k < end → slice_index vars k ≡ x
  pub above : (k : ℕ) → end ≤ k → k < length vars → x < slice_index vars k
