-- A graph, atoms over it, and the literals that were seen.
use Rattle.std.specs.Prelude.{◌≡◌, ℕ, ◌+◌, ◌<◌, ◌≤◌, Bool, ℤ, List, map, Some, length, slice_index_or, IsTrue, All}
use Rattle.mono_base.specs.declared.limits.TheConstants.{MAX_VARS, MAX_ATOMS}
use Rattle.mono_base.specs.Partial.{has_var, is_partial}
use Rattle.mono_graph.specs.Digraph.{Digraph, IsGraph, is_distinct}
use Rattle.mono_problem.specs.declared.atom.Atom.{Atom}
use Rattle.mono_problem.specs.declared.atom.Predicate.{Predicate}
use Rattle.mono_problem.specs.Instance.{Instance}
use Rattle.mono_problem.specs.Read.{atom_numbered, no_atom}
use Rattle.mono_problem.specs.WellFormed.{IsOver}
use Rattle.mono_theory.specs.Theories.{concerns_of, atom_of}
use Rattle.mono_theory.specs.Variables.{AreVarsOf}
use Rattle.mono_bounds.specs.Bound.{edge_vars}
use Rattle.mono_bounds.specs.SeenBounds.{SeenBound, IsSeenBound}

-- a variable's number is within the limits
abbrev pub IsVar : ℕ → Type 0
IsVar v = (1 ≤ v) × (v ≤ MAX_VARS)

-- the atoms are over the graph, under different numbers
pub record AreAtomsOf (g : Digraph) (atoms : List Atom) : Type 0 where
  pub over : All (λ x. IsVar x.var × IsOver g x.predicate) atoms
  pub numbers : All (λ x. atom_of atoms x.number ≡ Some x) atoms
  pub apart : (i j : ℕ) → i < length atoms → j < length atoms → (slice_index_or atoms i no_atom).number ≡ (slice_index_or atoms j no_atom).number → i ≡ j

-- the numbers are different atoms of the problem, of the kind and over the graph at the place
pub record AreNumbersOf (covers : Predicate → Bool) (p : Instance) (k : ℕ) (ns : List ℕ) : Type 0 where
  pub held : All (λ n. (0 < n) × (n ≤ length p.atoms)) ns
  pub graph : All (λ n. (atom_numbered p n).graph ≡ k) ns
  pub kind : All (λ n. IsTrue (covers (atom_numbered p n).predicate)) ns
  pub different : IsTrue (is_distinct ns)

abbrev pub atom_vars : List Atom → List ℕ
atom_vars atoms = map (λ x. x.var) atoms

abbrev pub atom_numbers : List Atom → List ℕ
atom_numbers atoms = map (λ x. x.number) atoms

-- The literals are over different variables that concern the theory, the bounds are theirs, and there is room for one of each.
-- The variables that concern the theory stand in a list.
pub record IsFrame (g : Digraph) (atoms : List Atom) (t : List ℤ) (its_edges its_atoms : SeenBound) (numbers vs : List ℕ) (cells : ℕ) : Type 0 where
  pub graph : IsGraph g
  pub known : AreAtomsOf g atoms
  pub partial : IsTrue (is_partial t)
  pub concerned : (v : ℕ) → IsTrue (has_var t v) → IsTrue (concerns_of g atoms v)
  pub edges : IsSeenBound its_edges (edge_vars g) t
  pub own : IsSeenBound its_atoms (atom_vars atoms) t
  pub numbered : numbers ≡ atom_numbers atoms
  pub vars : AreVarsOf g atoms vs
  pub room : length g.edges + length atoms ≤ cells
  pub edge_room : length g.edges + length atoms ≤ its_edges.cells
  pub own_room : length g.edges + length atoms ≤ its_atoms.cells
  pub few : length atoms ≤ MAX_ATOMS
