-- Evidence: a witness for or against a predicate, and the edges on which it rests.
use Rattle.std.specs.Prelude.{◌≡◌, ℕ, ◌<◌, nat_lt, Bool, true, false, not, ℤ, pos, int_lt, List, ◌∷◌, length, map, Option, None, Some, IsTrue, All, if◌then◌else◌}
use Rattle.mono_graph.specs.Digraph.{Digraph, edge_at, places, present, has}
use Rattle.mono_graph.specs.Flows.{amount_at}
use Rattle.mono_problem.specs.declared.atom.Atom.{Atom}
use Rattle.mono_problem.specs.declared.atom.Predicate.{Predicate}
use Rattle.mono_problem.specs.Holds.{Holds, falls}
use Rattle.mono_problem.specs.Quiet.{under, over}
use Rattle.mono_steps.specs.declared.lemma.Lemma.{Lemma}
use Rattle.mono_steps.specs.declared.lemma.Witness.{Witness}
use Rattle.mono_steps.specs.declared.lemma.Witness.TheVariants as by
use Rattle.mono_steps.specs.Switching.{literal_of}
use Rattle.mono_steps.specs.Witnesses.{is_positive, rests_on_present, names_known, is_small, passes}
use Rattle.mono_theory.specs.declared.evidence.Evidence.{Evidence}

-- whether the predicate holds in the part, decided
abbrev pub Decides : Digraph → List Bool → Predicate → Bool → Type 0
Decides g P q true = Holds g P q
Decides g P q false = ¬ Holds g P q

-- what evidence that rests on edges of this value shows of the predicate; also on which value evidence of this sign rests
abbrev pub shown_by : Predicate → Bool → Bool
shown_by q value = if falls q then not value else value

-- the part of these places alone, and the part of all others
abbrev pub only : Digraph → List ℕ → List Bool
only g ks = map (has ks) (places g)

abbrev pub all_but : Digraph → List ℕ → List Bool
all_but g ks = map (λ k. not (has ks k)) (places g)

-- the witness uses the edge: a flow gives it something. Any other uses each edge on which it rests
abbrev pub uses : Digraph → Witness → ℕ → Bool
uses g (by.Flow amounts) k = nat_lt 0 (amount_at amounts (edge_at g k).number)
uses g w k = true

-- The witness names what is there, and uses the edges. Where it rests on present edges, they are present and it passes
-- over them alone. Else they are absent, and it passes over all others.
pub record IsEvidence (g : Digraph) (P : List Bool) (q : Predicate) (e : Evidence) : Type 0 where
  pub known : IsTrue (names_known g e.witness)
  pub small : IsTrue (is_small e.witness)
  pub sided : All (λ k. (k < length g.edges) × (present P k ≡ rests_on_present e.witness)) e.edges
  pub used : All (λ k. IsTrue (uses g e.witness k)) e.edges
  pub passes : IsTrue (passes g (if rests_on_present e.witness then only g e.edges else all_but g e.edges) q e.witness)

-- the atom's variable has the value that the witness shows, or an edge on which it rests is otherwise
abbrev pub clause_by : Digraph → Atom → Evidence → List ℤ
clause_by g x e = literal_of (is_positive e.witness) x.var ∷ map (λ k. literal_of (not (rests_on_present e.witness)) (edge_at g k).var) e.edges

abbrev pub lemma_by : Digraph → Atom → Evidence → Lemma
lemma_by g x e = record { atom = x.number; clause = clause_by g x e; witness = e.witness }

-- of two pieces of evidence the one that rests on fewer edges, the first where neither does; the other may lack
abbrev pub lighter : Evidence → Option Evidence → Evidence
lighter e None = e
lighter e (Some other) = if nat_lt (length other.edges) (length e.edges) then other else e

-- the part that decides whether a literal of an atom with this predicate is forced
abbrev pub side : Digraph → Predicate → List ℤ → ℤ → List Bool
side g q t l = if shown_by q (int_lt (pos 0) l) then under g t else over g t
