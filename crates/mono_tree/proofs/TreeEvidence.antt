-- Trees and splits show whether a predicate on spanning trees holds.
use Rattle.std.proofs.Common.{◌≡◌, ℕ, ◌<◌, Bool, true, false, not, ◌&&◌, ◌||◌, List, length, refl, sym, ap, subst, ◌∙◌, ℤ, pos, All}
use Rattle.std.specs.Prelude.{IsTrue, int_le, int_lt}
use Rattle.std.specs.List.{list_all, list_any}
use Rattle.std.proofs.lemmas.Bool.{and_parts, and_from}
use Rattle.mono_graph.specs.Digraph.{Digraph, IsGraph, edge_at, present, places, nodes_of, crosses, weight_of, has}
use Rattle.mono_graph.specs.Trees.{is_spanning_tree, is_tree, is_split, is_bridged, is_least}
use Rattle.mono_graph.proofs.Membership.{all_at, all_from}
use Rattle.mono_problem.specs.declared.atom.Predicate.TheVariants as kind
use Rattle.mono_steps.specs.declared.lemma.Witness.TheVariants as by
use Rattle.mono_theory.specs.declared.evidence.Evidence.{Evidence}
use Rattle.mono_theory.specs.Evidences.{only, IsEvidence}
use Rattle.mono_theory.specs.Resting.{AreAbsent, AreAlike, absent_across}
use Rattle.mono_theory.specs.Walked.{numbers_of}
use Rattle.mono_theory.proofs.EvidenceDecides.{in_only}
use Rattle.mono_graph.proofs.Pigeons.{all_has}
use Rattle.mono_theory.proofs.RestingOnAbsent.{alike_each, alike_none, crossing_are_absent, resting_evidence}
use Rattle.mono_theory.proofs.WalksAsEvidence.{numbers-known, placed-numbers, nodes-known, all_by}
use Rattle.mono_tree.specs.Spanning.{tree_evidence, split_evidence, is_unbridged, IsLeastEvidence}
use Rattle.mono_trees.specs.Unbridged.{AreUnbridged}

-- ---- trees within the bound

pub tree_shows : (g : Digraph) (P : List Bool) (most : ℤ) (ks : List ℕ) → IsGraph g → All (λ k. k < length g.edges) ks → IsTrue (is_tree g P most ks) → IsEvidence g P (kind.Tree most) (tree_evidence g ks)
tree_shows g P most ks ok known h =
    let a = and_parts (list_all (present P) ks && is_spanning_tree g ks) (int_le (pos (weight_of g ks)) most) h in
    let b = and_parts (list_all (present P) ks) (is_spanning_tree g ks) a.0 in
    let own : IsTrue (is_tree g (only g ks) most ks) =
    and_from (list_all (present (only g ks)) ks && is_spanning_tree g ks) (int_le (pos (weight_of g ks)) most)
    (and_from (list_all (present (only g ks)) ks) (is_spanning_tree g ks) (all_from (present (only g ks)) ks (λ k t. in_only g ks k (all_has (λ j. j < length g.edges) ks k known t) t)) b.1) a.1 in
    record {
      known = numbers-known g ks ok known;
      small = refl;
      sided = all_by (λ k. (k < length g.edges) × (present P k ≡ true)) ks (λ k t. (all_has (λ j. j < length g.edges) ks k known t, all_at (present P) ks k b.0 t));
      used = λ i d lt. refl;
      passes = ap (is_tree g (only g ks) most) (placed-numbers g ks ok known) ∙ own;
    }

-- ---- splits

pub split_shows : (g : Digraph) (P : List Bool) (most : ℤ) (s : List ℕ) → All (λ u. u < g.nodes) s → IsTrue (is_split g P s) → IsEvidence g P (kind.Tree most) (split_evidence g P s)
split_shows g P most s known h =
    resting_evidence (crosses s) g P (kind.Tree most) (by.Split s) (absent_across g P s) refl (nodes-known g s known) refl
    (λ Q same. ap (λ b. list_any (has s) (nodes_of g) && not (list_all (has s) (nodes_of g)) && b) (alike_none same)) (crossing_are_absent g P s) h

-- ---- lightest trees above the bound

unbridged_are_absent : (g : Digraph) (P : List Bool) (ks edges : List ℕ) → AreUnbridged g P ks edges → AreAbsent (is_unbridged g ks) g P edges
unbridged_are_absent g P ks edges h = record {
  absent = all_by (λ k. (k < length g.edges) × (present P k ≡ false)) edges (λ k t. let u = h.only k t in (u.place, u.absent));
  all = λ k lt t off. h.all k (record { place = lt; absent = off; apart = t });
}

-- the test looks only at edges that aren't bridged
same_bridged : (g : Digraph) (P Q : List Bool) (ks : List ℕ) → AreAlike (is_unbridged g ks) g P Q
    → list_all (λ k. not (present P k) || is_bridged g ks (edge_at g k)) (places g) ≡ list_all (λ k. not (present Q k) || is_bridged g ks (edge_at g k)) (places g)
same_bridged g P Q ks h = alike_each (is_bridged g ks) g P Q h

pub least_shows : (g : Digraph) (P : List Bool) (most : ℤ) (ks : List ℕ) (e : Evidence) → IsGraph g → All (λ k. k < length g.edges) ks → IsTrue (is_least g P most ks) → IsLeastEvidence g P ks e → IsEvidence g P (kind.Tree most) e
least_shows g P most ks e ok known h is =
    let own = placed-numbers g ks ok known in
    let made : e ≡ record { witness = by.Least (numbers_of g ks); edges = e.edges } = ap (λ w. record { witness = w; edges = e.edges }) is.witness in
    subst (IsEvidence g P (kind.Tree most)) (sym made)
    (resting_evidence (is_unbridged g ks) g P (kind.Tree most) (by.Least (numbers_of g ks)) e.edges refl (numbers-known g ks ok known) refl
    (λ Q same. ap (is_least g P most) own ∙ ap (λ b. is_spanning_tree g ks && int_lt most (pos (weight_of g ks)) && b) (same_bridged g P Q ks same) ∙ sym (ap (is_least g Q most) own))
    (unbridged_are_absent g P ks e.edges is.edges) (ap (is_least g P most) own ∙ h))
