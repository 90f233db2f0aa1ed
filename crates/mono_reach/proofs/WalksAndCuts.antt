-- Walks and sets of nodes show whether a predicate of reachability holds.
use Rattle.std.proofs.Common.{◌≡◌, ℕ, ◌<◌, Bool, false, not, ◌&&◌, List, length, refl, ap, sym, subst, All}
use Rattle.std.specs.Prelude.{IsTrue}
use Rattle.mono_graph.specs.Digraph.{Digraph, IsGraph, IsSubpart, leads_out, has}
use Rattle.mono_graph.specs.declared.limit.Limit.TheVariants as limit
use Rattle.mono_graph.specs.Walks.{is_path, is_cut}
use Rattle.mono_problem.specs.declared.atom.Predicate.{Predicate}
use Rattle.mono_problem.specs.declared.atom.Predicate.TheVariants as kind
use Rattle.mono_problem.specs.Holds.{falls}
use Rattle.mono_theory.specs.declared.evidence.Evidence.{Evidence}
use Rattle.mono_steps.specs.declared.lemma.Witness.TheVariants as by
use Rattle.mono_theory.specs.Evidences.{IsEvidence}
use Rattle.mono_theory.specs.Walked.{walk_evidence}
use Rattle.mono_theory.specs.Resting.{absent_out}
use Rattle.mono_theory.proofs.RestingOnAbsent.{alike_none, evidence_within, leaving_are_absent, resting_evidence}
use Rattle.mono_theory.proofs.WalksAsEvidence.{walk_is_evidence, nodes-known}
use Rattle.mono_reach.specs.Reaches.{cut_evidence, is_reach}

-- reachability rises as edges come
pub reach_rises : (q : Predicate) → IsTrue (is_reach q) → falls q ≡ false
reach_rises (kind.Reach u v) r = refl
reach_rises (kind.Steps u v most) r = refl
reach_rises (kind.Distance u v most) r = refl
reach_rises (kind.Flow u v least) r = refl
reach_rises (kind.Tree most) r = refl
reach_rises kind.Acyclic r = absurd cc

pub walk_shows : (g : Digraph) (P : List Bool) (u v : ℕ) (ks : List ℕ) → IsGraph g → All (λ k. k < length g.edges) ks → IsTrue (is_path g P u v limit.Free ks) → IsEvidence g P (kind.Reach u v) (walk_evidence g ks)
walk_shows g P u v ks = walk_is_evidence g P (kind.Reach u v) u v limit.Free ks (λ Q es. refl)

pub cut_shows : (g : Digraph) (P : List Bool) (u v : ℕ) (s : List ℕ) → All (λ w. w < g.nodes) s → IsTrue (is_cut g P u v s) → IsEvidence g P (kind.Reach u v) (cut_evidence g P s)
cut_shows g P u v s known h =
    resting_evidence (leads_out s) g P (kind.Reach u v) (by.Cut s) (absent_out g P s) refl (nodes-known g s known) refl
    (λ Q same. ap (λ b. has s u && not (has s v) && b) (alike_none same)) (leaving_are_absent g P s) h

pub far_shows : (g : Digraph) (P Q : List Bool) (u v : ℕ) (s : List ℕ) (e : Evidence) → All (λ w. w < g.nodes) s → IsTrue (is_cut g Q u v s) → IsSubpart P Q → e ≡ cut_evidence g Q s → IsEvidence g P (kind.Reach u v) e
far_shows g P Q u v s e known h sub is =
    subst (λ (x : Evidence). IsEvidence g P (kind.Reach u v) x) (sym is) (evidence_within g P Q (kind.Reach u v) (cut_evidence g Q s) refl sub (cut_shows g Q u v s known h))

pub near_shows : (g : Digraph) (P : List Bool) (u v : ℕ) (s : List ℕ) (e : Evidence) → All (λ w. w < g.nodes) s → IsTrue (is_cut g P u v s) → e ≡ cut_evidence g P s → IsEvidence g P (kind.Reach u v) e
near_shows g P u v s e known h is = subst (λ (x : Evidence). IsEvidence g P (kind.Reach u v) x) (sym is) (cut_shows g P u v s known h)
