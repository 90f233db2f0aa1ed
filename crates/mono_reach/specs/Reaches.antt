-- Predicates of reachability, and sets of nodes as evidence against one.
use Rattle.std.specs.Prelude.{ℕ, Bool, true, false, List, refl, IsTrue}
use Rattle.std.proofs.lemmas.Bool.{both_ways}
use Rattle.mono_graph.specs.Digraph.{Digraph}
use Rattle.mono_dynamic.specs.RowsAlong.{IsFree}
use Rattle.mono_problem.specs.declared.atom.Predicate.{Predicate}
use Rattle.mono_problem.specs.declared.atom.Predicate.TheVariants as kind
use Rattle.mono_steps.specs.declared.lemma.Witness.TheVariants as by
use Rattle.mono_theory.specs.declared.evidence.Evidence.{Evidence}
use Rattle.mono_theory.specs.Asked.{limit_of}
use Rattle.mono_theory.specs.Resting.{absent_out}

abbrev pub is_reach : Predicate → Bool
is_reach (kind.Reach u v) = true
is_reach q = false

-- any walk is as it asks
pub reach_is_free : (q : Predicate) → IsTrue (is_reach q) → IsFree (limit_of q)
reach_is_free (kind.Steps u v most) r = absurd (both_ways false refl r)
reach_is_free (kind.Distance u v most) r = absurd (both_ways false refl r)
reach_is_free (kind.Reach u v) r = refl
reach_is_free (kind.Flow u v least) r = refl
reach_is_free (kind.Tree most) r = refl
reach_is_free kind.Acyclic r = refl

-- a set of nodes rests on the absent edges that leave it
abbrev pub cut_evidence : Digraph → List Bool → List ℕ → Evidence
cut_evidence g P s = record { witness = by.Cut s; edges = absent_out g P s }
