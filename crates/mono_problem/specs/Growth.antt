-- How a problem grows, one part at a time.
use Rattle.std.specs.Prelude.{ℕ, max, ℤ, nat_abs, List, [], ◌∷◌, ◌++◌, fold, slice_index_or, slice_set}
use Rattle.mono_graph.specs.declared.edge.Edge.{Edge}
use Rattle.mono_graph.specs.Digraph.{Digraph, with_edge as longer}
use Rattle.mono_problem.specs.declared.atom.Atom.{Atom}
use Rattle.mono_problem.specs.Instance.{Instance, no_graph}

-- no variable, no graph, no atom, no clause
abbrev pub nothing : Instance
nothing = record { vars = 0; graphs = []; atoms = []; clauses = [] }

-- the number of variables is at least x
abbrev pub raised : Instance → ℕ → Instance
raised p x = record p { vars = max p.vars x }

-- one more graph, of n nodes and no edges
abbrev pub with_graph : Instance → ℕ → ℕ → Instance
with_graph p id n = record p { graphs = p.graphs ++ (id, record { nodes = n; edges = [] }) ∷ [] }

-- a graph with one more edge, beside its identity
abbrev pub graph_with : ℕ × Digraph → Edge → ℕ × Digraph
graph_with g e = (g.0, longer g.1 e)

-- one more edge of the graph at the place
abbrev pub with_edge : Instance → ℕ → Edge → Instance
with_edge p k e = record p { vars = max p.vars e.var; graphs = slice_set p.graphs k (graph_with (slice_index_or p.graphs k no_graph) e) }

abbrev pub with_atom : Instance → Atom → Instance
with_atom p x = record p { vars = max p.vars x.var; atoms = p.atoms ++ x ∷ [] }

-- the greatest variable of the literals, or v where it is greater
abbrev pub greatest_var : ℕ → List ℤ → ℕ
greatest_var v c = fold (λ a l. max a (nat_abs l)) v c

abbrev pub with_clause : Instance → List ℤ → Instance
with_clause p c = record p { vars = greatest_var p.vars c; clauses = p.clauses ++ c ∷ [] }
