-- The variables that concern a theory, as a list.
use Rattle.std.specs.Prelude.{◌≡◌, ℕ, List}
use Rattle.std.specs.List.Sorted.{IsStrictlyIncreasing}
use Rattle.mono_graph.specs.Digraph.{Digraph, has}
use Rattle.mono_problem.specs.declared.atom.Atom.{Atom}
use Rattle.mono_theory.specs.Theories.{concerns_of}

-- the variables of the edges and of the atoms, rising, each once
pub record AreVarsOf (g : Digraph) (atoms : List Atom) (vs : List ℕ) : Type 0 where
  pub rising : IsStrictlyIncreasing vs
  pub exact : (v : ℕ) → has vs v ≡ concerns_of g atoms v
