-- What an atom forces, and the lemma that explains it.
use Rattle.std.specs.Prelude.{◌≡◌, ℕ, ℤ, List, IsTrue, MatchOption}
use Rattle.mono_base.specs.Literal.{has_lit}
use Rattle.mono_base.specs.Partial.{others_false}
use Rattle.mono_problem.specs.Instance.{Instance, graph_at, numbered}
use Rattle.mono_problem.specs.Quiet.{Forces}
use Rattle.mono_steps.specs.declared.lemma.Lemma.{Lemma}
use Rattle.mono_steps.specs.Witnesses.{justifies}

-- the problem has the atom n, and it forces the literal
abbrev pub AtomForces : Instance → List ℤ → ℕ → ℤ → Type 0
AtomForces p t n l = MatchOption (numbered p.atoms n) ⊥ (λ x. Forces (graph_at p x.graph) x t l)

-- the lemma is justified and of the atom n; it has the literal, and its others are false
pub record IsExplanation (p : Instance) (t : List ℤ) (n : ℕ) (l : ℤ) (m : Lemma) : Type 0 where
  pub number : m.atom ≡ n
  pub justified : IsTrue (justifies p m)
  pub has : IsTrue (has_lit m.clause l)
  pub others : IsTrue (others_false t m.clause l)
