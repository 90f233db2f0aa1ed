-- Evidence that is kept. It is right wherever its edges are as it needs them, whatever else comes and goes.
use Rattle.std.specs.Prelude.{◌≡◌, ℕ, ◌<◌, Bool, List, Option, None, IfSome, MatchOption, length, slice_index_or, IsTrue, All, if◌then◌else◌}
use Rattle.mono_graph.specs.Digraph.{Digraph, present, has}
use Rattle.mono_problem.specs.declared.atom.Atom.{Atom}
use Rattle.mono_problem.specs.declared.atom.Predicate.{Predicate}
use Rattle.mono_problem.specs.Read.{no_atom}
use Rattle.mono_steps.specs.declared.lemma.Witness.{Witness}
use Rattle.mono_steps.specs.Witnesses.{rests_on_present, names_known, is_small, passes}
use Rattle.mono_theory.specs.declared.evidence.Evidence.{Evidence}
use Rattle.mono_theory.specs.Evidences.{only, all_but, uses}

-- the edges all have the value in the part
abbrev pub AllHave : List Bool → Bool → List ℕ → Type 0
AllHave P value ks = All (λ k. present P k ≡ value) ks

abbrev pub atom_at : List Atom → ℕ → Atom
atom_at atoms a = slice_index_or atoms a no_atom

-- Evidence that rests on edges of this value: the witness names what is there, and passes over the part that its edges leave
-- to it.
pub record IsSound (g : Digraph) (q : Predicate) (value : Bool) (e : Evidence) : Type 0 where
  pub rests : rests_on_present e.witness ≡ value
  pub known : IsTrue (names_known g e.witness)
  pub small : IsTrue (is_small e.witness)
  pub held : All (λ k. k < length g.edges) e.edges
  pub used : All (λ k. IsTrue (uses g e.witness k)) e.edges
  pub passes : IsTrue (passes g (if value then only g e.edges else all_but g e.edges) q e.witness)

-- a witness that rests on edges of this value and passes over the part
pub record IsWitnessIn (g : Digraph) (P : List Bool) (q : Predicate) (value : Bool) (w : Witness) : Type 0 where
  pub rests : rests_on_present w ≡ value
  pub known : IsTrue (names_known g w)
  pub small : IsTrue (is_small w)
  pub passes : IsTrue (passes g P q w)

abbrev pub evidence_at : List (Option Evidence) → ℕ → Option Evidence
evidence_at xs a = slice_index_or xs a None

-- of each atom evidence of that kind or nothing
pub record AreSound (g : Digraph) (atoms : List Atom) (value : Bool) (xs : List (Option Evidence)) : Type 0 where
  pub len : length xs ≡ length atoms
  pub each : (a : ℕ) → a < length atoms → IfSome (evidence_at xs a) (IsSound g (atom_at atoms a).predicate value)

-- there is evidence, and its edges are in the part as it needs them
abbrev pub IsRightIn : List Bool → Bool → Option Evidence → Type 0
IsRightIn P value o = MatchOption o ⊥ (λ e. AllHave P value e.edges)

-- there is evidence, and it rests on the edge
abbrev pub RestsOn : Option Evidence → ℕ → Type 0
RestsOn o k = MatchOption o ⊥ (λ e. IsTrue (has e.edges k))

-- there is evidence, and its edges are among so many
abbrev pub EdgesBelow : ℕ → Option Evidence → Type 0
EdgesBelow n o = IfSome o (λ e. All (λ k. k < n) e.edges)
