-- The problem that a text stands for.
use Rattle.std.specs.Prelude.{◌≡◌, ℕ, max, ◌==◌, ℤ, nat_abs, List, ◌++◌, map, filter, flat_map, fold, unwrap_or, None, Some, Result, Ok, Err}
use Rattle.std.specs.List.{enumerate_from}
use Rattle.mono_text.specs.Text.{token_lines}
use Rattle.mono_graph.specs.declared.edge.Edge.{Edge}
use Rattle.mono_graph.specs.Digraph.{Digraph}
use Rattle.mono_problem.specs.declared.atom.Atom.{Atom}
use Rattle.mono_problem.specs.Instance.{place_named, Instance}
use Rattle.mono_gnf.specs.declared.refusal.GnfRefusal.{GnfRefusal}
use Rattle.mono_gnf.specs.declared.refusal.GnfRefusal.TheVariants as refusal
use Rattle.mono_gnf.specs.declared.statement.Statement.{Statement}
use Rattle.mono_gnf.specs.Lines.{numbers_of, clauses_of, statements_of}
use Rattle.mono_gnf.specs.Declarations.{EdgeLine, AtomLine, headers, graphs, edges, atoms}
use Rattle.mono_gnf.specs.Faults.{first_fault}

-- edges and predicates are numbered from 1, over the whole file
abbrev pub numbered_edge : ℕ × EdgeLine → Edge
numbered_edge (n, l) = record { number = n; from = l.from; to = l.to; var = l.var; weight = l.weight }

abbrev pub numbered_atom : List (ℕ × ℕ) → ℕ × AtomLine → Atom
numbered_atom gs (n, l) = record { number = n; graph = unwrap_or (place_named gs l.graph) 0; var = l.var; predicate = l.predicate }

-- a graph has all edges that name it, before and behind
abbrev pub edges_named : List EdgeLine → ℕ → List Edge
edges_named es id = map numbered_edge (filter (λ l. l.1.graph == id) (enumerate_from 1 es))

abbrev pub declared_graph : List EdgeLine → ℕ × ℕ → ℕ × Digraph
declared_graph es (id, nodes) = (id, record { nodes = nodes; edges = edges_named es id })

abbrev pub greatest : List ℕ → ℕ
greatest xs = fold max 0 xs

-- what the headers announce, and each variable that occurs
abbrev pub variables_named : List Statement → List ℤ → List ℕ
variables_named statements numbers =
    headers statements
    ++ map (λ e. e.var) (edges statements)
    ++ map (λ x. x.var) (atoms statements)
    ++ flat_map (λ c. map nat_abs c) (clauses_of numbers)

-- the problem of statements and numbers. Its variables go up to the greatest that a header announces or that occurs
abbrev pub problem_from : List Statement → List ℤ → Instance
problem_from statements numbers = record {
  vars = greatest (variables_named statements numbers);
  graphs = map (declared_graph (edges statements)) (graphs statements);
  atoms = map (numbered_atom (graphs statements)) (enumerate_from 1 (atoms statements));
  clauses = clauses_of numbers;
}

abbrev pub instance_of : List (List (List ℕ)) → Instance
instance_of lines = problem_from (statements_of lines) (numbers_of lines)

-- the text has no fault, and the problem is that of its lines
abbrev pub Stands : List ℕ → Instance → Type 0
Stands text p = (first_fault text ≡ None) × (p ≡ instance_of (token_lines text))

-- a reader answers the problem that the text stands for, its first fault, or want of memory
abbrev pub Reads : List ℕ → Result Instance GnfRefusal → Type 0
Reads text (Ok p) = Stands text p
Reads text (Err refusal.Memory) = Unit {0}
Reads text (Err (refusal.At line f)) = first_fault text ≡ Some (line, f)
