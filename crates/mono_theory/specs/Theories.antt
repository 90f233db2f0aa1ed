-- Theories: a graph, atoms over it, and the literals seen (Bayless et al. 2015).
use Rattle.std.specs.Prelude.{◌≡◌, ℕ, ◌-◌, ◌==◌, Bool, false, ◌||◌, ℤ, pos, List, [], ◌∷◌, ◌++◌, length, take, find, slice_index_or, Option, IsTrue, MatchOption, All}
use Rattle.std.specs.List.{list_any}
use Rattle.mono_base.specs.Literal.{var_of, has_lit}
use Rattle.mono_base.specs.Partial.{is_true_in, is_open_in, others_false}
use Rattle.mono_graph.specs.Digraph.{Digraph}
use Rattle.mono_problem.specs.declared.atom.Atom.{Atom}
use Rattle.mono_problem.specs.Quiet.{Forces, TheoryQuiet}
use Rattle.mono_steps.specs.declared.lemma.Lemma.{Lemma}
use Rattle.mono_steps.specs.Witnesses.{is_shown}
use Rattle.mono_theory.specs.declared.theory.Finding.{Finding}
use Rattle.mono_theory.specs.declared.theory.Finding.TheVariants as finding
use Rattle.mono_theory.specs.declared.theory.Force.{Force}
use Rattle.mono_theory.specs.declared.theory.Force.TheVariants as force

-- what a theory is over, and what it has seen
pub record Facts : Type 0 where
  pub graph : Digraph
  pub atoms : List Atom
  pub seen : List ℤ

-- one more literal is seen, and the first n of them alone
abbrev pub seeing : Facts → ℤ → Facts
seeing f l = record { graph = f.graph; atoms = f.atoms; seen = f.seen ++ l ∷ [] }

abbrev pub cut_to : ℕ → Facts → Facts
cut_to n f = record { graph = f.graph; atoms = f.atoms; seen = take n f.seen }

-- all literals but the last, and the last one
abbrev pub but_last : Facts → Facts
but_last f = cut_to (length f.seen - 1) f

abbrev pub last_seen : Facts → ℤ
last_seen f = slice_index_or f.seen (length f.seen - 1) (pos 0)

-- the variable is one of the graph's edges or of the atoms
abbrev pub concerns_of : Digraph → List Atom → ℕ → Bool
concerns_of g atoms v = list_any (λ e. e.var == v) g.edges || list_any (λ x. x.var == v) atoms

-- an atom of that number is there, and which
abbrev pub owns_of : List Atom → ℕ → Bool
owns_of atoms n = list_any (λ x. x.number == n) atoms

abbrev pub atom_of : List Atom → ℕ → Option Atom
atom_of atoms n = find (λ x. x.number == n) atoms

-- the atom of that number is there, and forces the literal
abbrev pub ForcesBy : Digraph → List Atom → List ℤ → ℕ → ℤ → Type 0
ForcesBy g atoms t n l = MatchOption (atom_of atoms n) ⊥ (λ x. Forces g x t l)

-- the lemma is of the atom n, and graph and atom show it; it has the literal, and its others are false
pub record IsLemmaOf (g : Digraph) (atoms : List Atom) (t : List ℤ) (n : ℕ) (l : ℤ) (m : Lemma) : Type 0 where
  pub number : m.atom ≡ n
  pub shown : MatchOption (atom_of atoms n) ⊥ (λ x. IsTrue (is_shown g x m))
  pub concerned : All (λ k. IsTrue (concerns_of g atoms (var_of k))) m.clause
  pub has : IsTrue (has_lit m.clause l)
  pub others : IsTrue (others_false t m.clause l)

-- the lemma is of one of the atoms, and graph and atom show it; one of its literals is open, and all others are false
pub record IsUnitLemma (g : Digraph) (atoms : List Atom) (t : List ℤ) (l : ℤ) (m : Lemma) : Type 0 where
  pub shown : MatchOption (atom_of atoms m.atom) ⊥ (λ x. IsTrue (is_shown g x m))
  pub concerned : All (λ k. IsTrue (concerns_of g atoms (var_of k))) m.clause
  pub has : IsTrue (has_lit m.clause l)
  pub is_open : IsTrue (is_open_in t l)
  pub others : IsTrue (others_false t m.clause l)

-- an atom forces the literal, which isn't true
pub record IsForced (g : Digraph) (atoms : List Atom) (t : List ℤ) (n : ℕ) (l : ℤ) : Type 0 where
  pub forces : ForcesBy g atoms t n l
  pub not_yet : is_true_in t l ≡ false

abbrev pub ForceIs : Digraph → List Atom → List ℤ → Force → Type 0
ForceIs g atoms t force.Quiet = TheoryQuiet g atoms t
ForceIs g atoms t (force.Literal n l) = IsForced g atoms t n l

-- The lemma is of one of the atoms, and graph and atom show it; no literal of it is true, and at most one is open. The atom forces
-- one of its literals.
pub record IsLemmaFor (g : Digraph) (atoms : List Atom) (t : List ℤ) (m : Lemma) : Type 0 where
  pub shown : MatchOption (atom_of atoms m.atom) ⊥ (λ x. IsTrue (is_shown g x m))
  pub concerned : All (λ k. IsTrue (concerns_of g atoms (var_of k))) m.clause
  pub none_true : (l : ℤ) → IsTrue (has_lit m.clause l) → is_true_in t l ≡ false
  pub one_open : (k l : ℤ) → IsTrue (has_lit m.clause k) → IsTrue (has_lit m.clause l) → IsTrue (is_open_in t k) → IsTrue (is_open_in t l) → k ≡ l
  pub lit : ℤ
  pub has : IsTrue (has_lit m.clause lit)
  pub forced : IsForced g atoms t m.atom lit

abbrev pub FindingIs : Digraph → List Atom → List ℤ → Finding → Type 0
FindingIs g atoms t finding.Quiet = TheoryQuiet g atoms t
FindingIs g atoms t (finding.Lemma m) = IsLemmaFor g atoms t m
