-- Which bounds an atom's predicate meets.
use Rattle.std.specs.Prelude.{◌≡◌, ◌⊎◌, ℕ, ◌+◌, ◌≤◌, ℤ, Bool, List}
use Rattle.mono_base.specs.declared.limits.TheConstants.{MAX_BOUND}
use Rattle.mono_graph.specs.Digraph.{Digraph, enabled}
use Rattle.mono_problem.specs.declared.atom.Predicate.{Predicate}
use Rattle.mono_problem.specs.Instance.{Instance, graph_at}
use Rattle.mono_problem.specs.Read.{atom_numbered}
use Rattle.mono_problem.specs.Holds.{Holds}
use Rattle.mono_best.specs.Asking.{predicate_of}
use Rattle.mono_best.specs.Bounds.{with_bound, bound_at}

-- in the part, the predicate holds with this bound
abbrev pub HoldsWith : Digraph → List Bool → Predicate → ℤ → Type 0
HoldsWith g P q b = Holds g P (with_bound q b)

-- under the assignment, the atom's predicate holds with this bound
abbrev pub Meets : Instance → ℕ → (ℕ → Bool) → ℤ → Type 0
Meets p n a b = HoldsWith (graph_at p (atom_numbered p n).graph) (enabled a (graph_at p (atom_numbered p n).graph)) (predicate_of p n) b

-- in the part, the predicate holds with the bound of this number
pub record HasNumber (g : Digraph) (P : List Bool) (q : Predicate) (number : ℕ) : Type 0 where
  pub to : number ≤ MAX_BOUND + 1
  pub holds : HoldsWith g P q (bound_at q number)

-- the number of a bound that is met, from k on; or k itself
pub record IsMetFrom (p : Instance) (n : ℕ) (a : ℕ → Bool) (k number : ℕ) : Type 0 where
  pub from : k ≤ number
  pub to : number ≤ MAX_BOUND + 1
  pub meets : (number ≡ k) ⊎ Meets p n a (bound_at (predicate_of p n) number)
