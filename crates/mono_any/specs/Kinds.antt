-- What a theory of any kind is over.
use Rattle.std.specs.Prelude.{ℤ, List}
use Rattle.mono_graph.specs.Digraph.{Digraph}
use Rattle.mono_problem.specs.declared.atom.Atom.{Atom}
use Rattle.mono_any.specs.declared.any.AnyTheory.{AnyTheory}
use Rattle.mono_any.specs.declared.any.AnyTheory.TheVariants as any

abbrev pub graph_of : AnyTheory → Digraph
graph_of (any.Reach t) = t.graph
graph_of (any.Distance t) = t.graph
graph_of (any.Flow t) = t.graph
graph_of (any.Tree t) = t.graph
graph_of (any.Acyclic t) = t.graph

abbrev pub atoms_of : AnyTheory → List Atom
atoms_of (any.Reach t) = t.atoms
atoms_of (any.Distance t) = t.atoms
atoms_of (any.Flow t) = t.atoms
atoms_of (any.Tree t) = t.atoms
atoms_of (any.Acyclic t) = t.atoms

abbrev pub seen_of : AnyTheory → List ℤ
seen_of (any.Reach t) = t.seen
seen_of (any.Distance t) = t.seen
seen_of (any.Flow t) = t.seen
seen_of (any.Tree t) = t.seen
seen_of (any.Acyclic t) = t.seen
