-- Walks and labels show whether a predicate on walks within a limit holds.
use Rattle.std.proofs.Common.{◌≡◌, ℕ, ◌<◌, ◌≤◌, Bool, false, ◌&&◌, List, [], ◌∷◌, map, length, leb, ltb, lt-ltb, refl, sym, ap, subst, ◌∙◌, arith, pos, All, le-leb}
use Rattle.std.specs.Prelude.{IsTrue, int_lt}
use Rattle.std.specs.Ordering.{int_eq}
use Rattle.std.specs.List.{list_all}
use Rattle.std.proofs.lemmas.Bool.{and_from}
use Rattle.std.proofs.lemmas.List.Elements.{All-tail}
use Rattle.mono_base.specs.declared.limits.TheConstants.{MAX_WITNESS_VALUE}
use Rattle.mono_graph.specs.declared.label.Label.{Label}
use Rattle.mono_graph.specs.declared.limit.Limit.{Limit}
use Rattle.mono_graph.specs.declared.limit.Limit.TheVariants as limit
use Rattle.mono_graph.specs.Digraph.{Digraph, IsGraph, IsSubpart, is_distinct}
use Rattle.mono_graph.specs.Walks.{is_path, is_labelling, is_tense, label_at, bound_of}
use Rattle.mono_paths.specs.Found.{HasBound}
use Rattle.mono_problem.specs.declared.atom.Predicate.{Predicate}
use Rattle.mono_problem.specs.declared.atom.Predicate.TheVariants as kind
use Rattle.mono_problem.specs.Holds.{falls}
use Rattle.mono_problem.specs.WellFormed.{IsOver}
use Rattle.mono_steps.specs.declared.lemma.Witness.TheVariants as by
use Rattle.mono_steps.specs.Witnesses.{passes, rests_on_present}
use Rattle.mono_theory.specs.declared.evidence.Evidence.{Evidence}
use Rattle.mono_theory.specs.Asked.{asks_walk}
use Rattle.mono_theory.specs.Evidences.{IsEvidence}
use Rattle.mono_theory.specs.Walked.{walk_evidence}
use Rattle.mono_theory.proofs.RestingOnAbsent.{alike_none, evidence_within, resting_evidence}
use Rattle.mono_theory.proofs.AskedRows.{walk_rises}
use Rattle.mono_theory.proofs.WalksAsEvidence.{walk_is_evidence}
use Rattle.mono_distance.specs.Distances.{is_distance, predicate_of, IsLabelEvidence}

-- ---- what a predicate asks for

pub distance_asks : (q : Predicate) → IsTrue (is_distance q) → IsTrue (asks_walk q)
distance_asks (kind.Reach u v) d = refl
distance_asks (kind.Steps u v most) d = refl
distance_asks (kind.Distance u v most) d = refl
distance_asks (kind.Flow u v least) d = absurd cc
distance_asks (kind.Tree most) d = absurd cc
distance_asks kind.Acyclic d = absurd cc

-- distances rise as edges come
pub distance_rises : (q : Predicate) → IsTrue (is_distance q) → falls q ≡ false
distance_rises q d = walk_rises q (distance_asks q d)

pub has_bound : (g : Digraph) (u v : ℕ) (l : Limit) → IsTrue (is_distance (predicate_of u v l)) → IsOver g (predicate_of u v l) → HasBound l
has_bound g u v limit.Free d h = absurd cc
has_bound g u v (limit.Steps most) d h = h.2
has_bound g u v (limit.Weight most) d h = h.2

-- ---- evidence

pub walk_shows : (g : Digraph) (P : List Bool) (u v : ℕ) (l : Limit) (ks : List ℕ) → IsGraph g → All (λ k. k < length g.edges) ks → IsTrue (is_path g P u v l ks) → IsEvidence g P (predicate_of u v l) (walk_evidence g ks)
walk_shows g P u v limit.Free ks = walk_is_evidence g P (predicate_of u v limit.Free) u v limit.Free ks (λ Q es. refl)
walk_shows g P u v (limit.Steps most) ks = walk_is_evidence g P (predicate_of u v (limit.Steps most)) u v (limit.Steps most) ks (λ Q es. refl)
walk_shows g P u v (limit.Weight most) ks = walk_is_evidence g P (predicate_of u v (limit.Weight most)) u v (limit.Weight most) ks (λ Q es. refl)

small-labels : (nodes : ℕ) (ls : List Label) → All (λ (l : Label). (l.node < nodes) × (l.value ≤ MAX_WITNESS_VALUE)) ls → IsTrue (list_all (λ (l : Label). leb l.value MAX_WITNESS_VALUE) ls)
small-labels nodes [] h = refl
small-labels nodes (l ∷ ls) h = and_from (leb l.value MAX_WITNESS_VALUE) _ (le-leb l.value MAX_WITNESS_VALUE (h 0 l (omega arith)).1) (small-labels nodes ls (All-tail (λ (m : Label). (m.node < nodes) × (m.value ≤ MAX_WITNESS_VALUE)) l ls h))

known-labels : (nodes : ℕ) (ls : List Label) → All (λ (l : Label). (l.node < nodes) × (l.value ≤ MAX_WITNESS_VALUE)) ls → IsTrue (list_all (λ (l : Label). ltb l.node nodes) ls)
known-labels nodes [] h = refl
known-labels nodes (l ∷ ls) h = and_from (ltb l.node nodes) _ (lt-ltb l.node nodes (h 0 l (omega arith)).0) (known-labels nodes ls (All-tail (λ (m : Label). (m.node < nodes) × (m.value ≤ MAX_WITNESS_VALUE)) l ls h))

-- labels within a limit are evidence against the predicate that asks for it
labelling_is_evidence : (g : Digraph) (P : List Bool) (q : Predicate) (u v : ℕ) (l : Limit) (ls : List Label) (e : Evidence) → ((Q : List Bool) → passes g Q q (by.Label ls) ≡ is_labelling g Q u v l ls)
    → All (λ (m : Label). (m.node < g.nodes) × (m.value ≤ MAX_WITNESS_VALUE)) ls → IsTrue (is_labelling g P u v l ls) → IsLabelEvidence g P l ls e → IsEvidence g P q e
labelling_is_evidence g P q u v l ls e serves known h is =
    let label = label_at ls (bound_of l) in
    let made : e ≡ record { witness = by.Label ls; edges = e.edges } = ap (λ w. record { witness = w; edges = e.edges }) is.witness in
    subst (IsEvidence g P q) (sym made)
    (resting_evidence (is_tense label l) g P q (by.Label ls) e.edges refl (known-labels g.nodes ls known) (small-labels g.nodes ls known)
    (λ Q same. serves P ∙ ap (λ b. is_distinct (map (λ (m : Label). m.node) ls) && int_eq (label u) (pos 0) && int_lt (bound_of l) (label v) && b) (alike_none same) ∙ sym (serves Q))
    is.edges (serves P ∙ h))

pub labels_show : (g : Digraph) (P : List Bool) (u v : ℕ) (l : Limit) (ls : List Label) (e : Evidence) → HasBound l → All (λ (m : Label). (m.node < g.nodes) × (m.value ≤ MAX_WITNESS_VALUE)) ls → IsTrue (is_labelling g P u v l ls) → IsLabelEvidence g P l ls e
    → IsEvidence g P (predicate_of u v l) e
labels_show g P u v limit.Free ls e b known h is = absurd b
labels_show g P u v (limit.Steps most) ls e b known h is = labelling_is_evidence g P (predicate_of u v (limit.Steps most)) u v (limit.Steps most) ls e (λ Q. refl) known h is
labels_show g P u v (limit.Weight most) ls e b known h is = labelling_is_evidence g P (predicate_of u v (limit.Weight most)) u v (limit.Weight most) ls e (λ Q. refl) known h is

pub far_show : (g : Digraph) (P Q : List Bool) (u v : ℕ) (l : Limit) (ls : List Label) (e : Evidence) → HasBound l → All (λ (m : Label). (m.node < g.nodes) × (m.value ≤ MAX_WITNESS_VALUE)) ls → IsTrue (is_labelling g Q u v l ls) → IsSubpart P Q
    → IsLabelEvidence g Q l ls e → IsEvidence g P (predicate_of u v l) e
far_show g P Q u v l ls e b known h sub is =
    evidence_within g P Q (predicate_of u v l) e (ap rests_on_present is.witness) sub (labels_show g Q u v l ls e b known h is)
