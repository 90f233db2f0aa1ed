-- The printed form of a problem.
use Rattle.std.specs.Prelude.{ℕ, ◌-◌, Bool, false, ◌==◌, nat_lt, if◌then◌else◌, ℤ, pos, negsuc, List, [], ◌∷◌, ◌++◌, length, map, flat_map, find, unwrap_or, codes, decimal}
use Rattle.std.specs.Fmt.{signed_decimal}
use Rattle.mono_base.specs.declared.limits.TheConstants.{MAX_BOUND}
use Rattle.std.specs.List.{range_with_len}
use Rattle.mono_text.specs.Text.{spaced}
use Rattle.mono_graph.specs.declared.edge.Edge.{Edge}
use Rattle.mono_graph.specs.Digraph.{Digraph, no_edge}
use Rattle.mono_problem.specs.declared.atom.Atom.{Atom}
use Rattle.mono_problem.specs.declared.atom.Predicate.{Predicate}
use Rattle.mono_problem.specs.declared.atom.Predicate.TheVariants as kind
use Rattle.mono_problem.specs.Instance.{Instance, identity_at, edges_total}

-- a line is the list of its tokens

-- ---- the header and the graphs

abbrev pub header_line : Instance → List (List ℕ)
header_line p = codes "p" ∷ codes "gnf" ∷ map decimal (p.vars ∷ length p.clauses ∷ [])

abbrev pub graph_line : ℕ × Digraph → List (List ℕ)
graph_line g = codes "digraph" ∷ codes "int" ∷ map decimal (g.1.nodes ∷ length g.1.edges ∷ g.0 ∷ [])

-- ---- edges

-- the edges of a graph, each beside the graph's identity
abbrev pub edges_beside : ℕ × Digraph → List (ℕ × Edge)
edges_beside g = map (λ e. (g.0, e)) g.1.edges

-- the edge of a number that is held, from 1
abbrev pub edge_numbered : Instance → ℕ → ℕ × Edge
edge_numbered p n = unwrap_or (find (λ e. e.1.number == n) (flat_map edges_beside p.graphs)) (0, no_edge)

-- the edges with the numbers from 1 to n, in that order
abbrev pub edges_up_to : Instance → ℕ → List (ℕ × Edge)
edges_up_to p n = map (edge_numbered p) (range_with_len 1 n)

abbrev pub edge_line : ℕ × Edge → List (List ℕ)
edge_line (id, e) = codes "edge" ∷ map decimal (id ∷ e.from ∷ e.to ∷ e.var ∷ e.weight ∷ [])

-- ---- predicates

-- of two words, the one of a bound from above, and the bound that is written: -1 is written as `lt` 0
abbrev pub most_word : List ℕ → List ℕ → ℤ → List ℕ
most_word leq lt (pos k) = leq
most_word leq lt (negsuc k) = lt

abbrev pub most_number : ℤ → ℕ
most_number (pos k) = k
most_number (negsuc k) = 0

-- of two words, the one of a bound from below, and the bound that is written: one beyond 2^53 is written as `gt` of one less
abbrev pub is_beyond : ℤ → Bool
is_beyond (pos f) = nat_lt MAX_BOUND f
is_beyond (negsuc n) = false

abbrev pub least_word : List ℕ → List ℕ → ℤ → List ℕ
least_word geq gt f = if is_beyond f then gt else geq

abbrev pub least_number : ℤ → ℕ
least_number (pos f) = if is_beyond (pos f) then f - 1 else f
least_number (negsuc n) = 0

-- the line of a predicate over the graph with an identity, and of its variable
abbrev pub predicate_line : ℕ → ℕ → Predicate → List (List ℕ)
predicate_line id x (kind.Reach u v) = codes "reach" ∷ map decimal (id ∷ u ∷ v ∷ x ∷ [])
predicate_line id x (kind.Steps u v most) =
    most_word (codes "distance_leq") (codes "distance_lt") most ∷ map decimal (id ∷ u ∷ v ∷ x ∷ most_number most ∷ [])
predicate_line id x (kind.Distance u v most) =
    most_word (codes "weighted_distance_leq") (codes "weighted_distance_lt") most ∷ map decimal (id ∷ u ∷ v ∷ x ∷ most_number most ∷ [])
predicate_line id x (kind.Flow s t least) =
    least_word (codes "maximum_flow_geq") (codes "maximum_flow_gt") least ∷ map decimal (id ∷ s ∷ t ∷ x ∷ least_number least ∷ [])
predicate_line id x (kind.Tree most) =
    most_word (codes "mst_weight_leq") (codes "mst_weight_lt") most ∷ map decimal (id ∷ x ∷ most_number most ∷ [])
predicate_line id x kind.Acyclic = codes "acyclic" ∷ map decimal (id ∷ x ∷ [])

abbrev pub atom_line : Instance → Atom → List (List ℕ)
atom_line p x = predicate_line (identity_at p x.graph) x.var x.predicate

-- ---- clauses and the whole

-- the literals as they were read, and a 0
abbrev pub clause_line : List ℤ → List (List ℕ)
clause_line c = map signed_decimal c ++ codes "0" ∷ []

-- the lines of the printed form, and its text
abbrev pub printed_lines : Instance → List (List (List ℕ))
printed_lines p =
    header_line p ∷ (map graph_line p.graphs
    ++ (map edge_line (edges_up_to p (edges_total p))
    ++ (map (atom_line p) p.atoms
    ++ map clause_line p.clauses)))

abbrev pub printed : Instance → List ℕ
printed p = flat_map spaced (printed_lines p)
