-- What predicates say of a part of a graph, and what an assignment satisfies.
use Rattle.std.specs.Prelude.{ℕ, Bool, true, false, ◌&&◌, int_le, ◌↔◌, List, IsTrue, All}
use Rattle.mono_base.specs.Literal.{all_true}
use Rattle.mono_graph.specs.Digraph.{Digraph, enabled}
use Rattle.mono_graph.specs.Walks.{is_path}
use Rattle.mono_graph.specs.declared.limit.Limit.TheVariants as limit
use Rattle.mono_graph.specs.Flows.{is_flow, value_of}
use Rattle.mono_graph.specs.Trees.{is_tree}
use Rattle.mono_graph.specs.Cycles.{IsAcyclic}
use Rattle.mono_problem.specs.declared.atom.Atom.{Atom}
use Rattle.mono_problem.specs.declared.atom.Predicate.{Predicate}
use Rattle.mono_problem.specs.declared.atom.Predicate.TheVariants as kind
use Rattle.mono_problem.specs.Instance.{Instance, graph_at}

-- the predicate holds in the part: there is a walk within the limit, a flow of at least the value, a spanning tree of at most the weight,
-- or no cycle
abbrev pub Holds : Digraph → List Bool → Predicate → Type 0
Holds g P (kind.Reach u v) = (walk : List ℕ) × IsTrue (is_path g P u v limit.Free walk)
Holds g P (kind.Steps u v most) = (walk : List ℕ) × IsTrue (is_path g P u v (limit.Steps most) walk)
Holds g P (kind.Distance u v most) = (walk : List ℕ) × IsTrue (is_path g P u v (limit.Weight most) walk)
Holds g P (kind.Flow s t least) = (flow : ℕ → ℕ) × IsTrue (is_flow g P s t flow && int_le least (value_of g s flow))
Holds g P (kind.Tree most) = (tree : List ℕ) × IsTrue (is_tree g P most tree)
Holds g P kind.Acyclic = IsAcyclic g P

-- The predicate falls: it may come to fail as edges come. Each other rises: it may come to hold
abbrev pub falls : Predicate → Bool
falls kind.Acyclic = true
falls q = false

-- the atom's predicate holds in the edges of its graph that the assignment enables
abbrev pub HoldsAtom : Instance → (ℕ → Bool) → Atom → Type 0
HoldsAtom p a x = Holds (graph_at p x.graph) (enabled a (graph_at p x.graph)) x.predicate

-- each atom's variable is true exactly where its predicate holds
abbrev pub Agrees : Instance → (ℕ → Bool) → Type 0
Agrees p a = All (λ x. IsTrue (a x.var) ↔ HoldsAtom p a x) p.atoms

-- every clause is true, and the atoms agree
abbrev pub Satisfies : Instance → (ℕ → Bool) → Type 0
Satisfies p a = IsTrue (all_true a p.clauses) × Agrees p a

-- no assignment satisfies the problem
abbrev pub HasNoModel : Instance → Type 0
HasNoModel p = (a : ℕ → Bool) → Satisfies p a → ⊥
