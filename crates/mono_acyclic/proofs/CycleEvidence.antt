-- Cycles and orders show whether a part has a cycle.
use Rattle.std.proofs.Common.{◌≡◌, ℕ, ◌<◌, Bool, true, false, not, ◌&&◌, List, [], ◌∷◌, length, ltb, refl, sym, ap, subst, ◌∙◌, arith, All}
use Rattle.std.specs.Prelude.{IsTrue}
use Rattle.std.specs.List.{list_all}
use Rattle.std.proofs.lemmas.Bool.{and_parts, and_from, not-true, not_from_false}
use Rattle.mono_graph.specs.declared.edge.Edge.{Edge}
use Rattle.mono_graph.specs.Digraph.{Digraph, IsGraph, edge_at, no_edge, present, places, nodes_of, has, is_place, is_distinct}
use Rattle.mono_graph.specs.Walks.{is_walk, leads}
use Rattle.mono_graph.proofs.Membership.{all_at, all_from, has_range, range_has, has_filter, filter_has}
use Rattle.mono_graph.specs.Cycles.{is_cycle, is_order, all_rise, rank_in, rises}
use Rattle.mono_problem.specs.declared.atom.Predicate.TheVariants as kind
use Rattle.mono_steps.specs.declared.lemma.Witness.TheVariants as by
use Rattle.mono_theory.specs.declared.evidence.Evidence.{Evidence}
use Rattle.mono_theory.specs.Evidences.{only, IsEvidence}
use Rattle.mono_theory.specs.Resting.{AreAbsent, AreAlike}
use Rattle.mono_theory.proofs.EvidenceDecides.{in_only}
use Rattle.mono_graph.proofs.Pigeons.{all_has}
use Rattle.mono_theory.proofs.RestingOnAbsent.{alike_each, resting_evidence}
use Rattle.mono_theory.proofs.WalksAsEvidence.{numbers-known, placed-numbers, nodes-known, all_by}
use Rattle.mono_acyclic.specs.Cyclic.{cycle_evidence, absent_falling, IsOrderEvidence}

-- ---- cycles

-- a walk's edges are present, and it is a walk in the part of its own edges
own_walk : (g : Digraph) (P : List Bool) (u v : ℕ) (ks : List ℕ) → All (λ k. k < length g.edges) ks → IsTrue (is_walk g P u v ks) → IsTrue (list_all (present P) ks) × IsTrue (is_walk g (only g ks) u v ks)
own_walk g P u v ks known h =
    let b = and_parts (list_all (is_place g) ks && list_all (present P) ks) (leads g u ks v) h in
    let c = and_parts (list_all (is_place g) ks) (list_all (present P) ks) b.0 in
    (c.1, and_from (list_all (is_place g) ks && list_all (present (only g ks)) ks) (leads g u ks v) (and_from (list_all (is_place g) ks) (list_all (present (only g ks)) ks) c.0 (all_from (present (only g ks)) ks (λ k t. in_only g ks k (all_has (λ j. j < length g.edges) ks k known t) t))) b.1)

pub own_cycle : (g : Digraph) (P : List Bool) (ks : List ℕ) → All (λ k. k < length g.edges) ks → IsTrue (is_cycle g P ks) → IsTrue (list_all (present P) ks) × IsTrue (is_cycle g (only g ks) ks)
own_cycle g P [] known h = absurd cc
own_cycle g P (k ∷ ks) known h = own_walk g P (edge_at g k).from (edge_at g k).from (k ∷ ks) known h

pub cycle_shows : (g : Digraph) (P : List Bool) (ks : List ℕ) → IsGraph g → All (λ k. k < length g.edges) ks → IsTrue (is_cycle g P ks) → IsEvidence g P kind.Acyclic (cycle_evidence g ks)
cycle_shows g P ks ok known h =
    let own = own_cycle g P ks known h in
    record {
      known = numbers-known g ks ok known;
      small = refl;
      sided = all_by (λ k. (k < length g.edges) × (present P k ≡ true)) ks (λ k t. (all_has (λ j. j < length g.edges) ks k known t, all_at (present P) ks k own.0 t));
      used = λ i d lt. refl;
      passes = ap (is_cycle g (only g ks)) (placed-numbers g ks ok known) ∙ own.1;
    }

-- ---- orders

-- the edge doesn't rise in the order
is_falling : List ℕ → Edge → Bool
is_falling ns e = not (rises (rank_in ns) e)

same_rise : (g : Digraph) (ns : List ℕ) (rank : ℕ → ℕ) (k : ℕ) → IsGraph g → ((u : ℕ) → u < g.nodes → rank u ≡ rank_in ns u) → k < length g.edges → rises rank (edge_at g k) ≡ rises (rank_in ns) (edge_at g k)
same_rise g ns rank k ok same lt =
    let ends = ok.ends k no_edge lt in
    ap (λ n. ltb n (rank (edge_at g k).to)) (same (edge_at g k).from ends.0) ∙ ap (λ n. ltb (rank_in ns (edge_at g k).from) n) (same (edge_at g k).to ends.1)

falling_are_absent : (g : Digraph) (P : List Bool) (ns : List ℕ) (rank : ℕ → ℕ) → IsGraph g → ((u : ℕ) → u < g.nodes → rank u ≡ rank_in ns u) → AreAbsent (is_falling ns) g P (absent_falling g P rank)
unfolding is_falling
falling_are_absent g P ns rank ok same = record {
  absent = all_by (λ k. (k < length g.edges) × (present P k ≡ false)) (absent_falling g P rank) (λ k h.
      let f = filter_has (λ j. not (present P j) && not (rises rank (edge_at g j))) (places g) k h in
      let r = range_has 0 (length g.edges) k f.0 in
      ((let high = r.1 in omega (arith, high)), not-true (present P k) (and_parts (not (present P k)) (not (rises rank (edge_at g k))) f.1).0));
  all = λ k lt t off. has_filter (λ j. not (present P j) && not (rises rank (edge_at g j))) (places g) k (has_range 0 (length g.edges) k (omega arith) (omega (arith, lt)))
      (and_from (not (present P k)) (not (rises rank (edge_at g k))) (not_from_false (present P k) off) (ap not (same_rise g ns rank k ok same lt) ∙ t));
}

-- the test looks only at edges that don't rise
same_rising : (g : Digraph) (P Q : List Bool) (ns : List ℕ) → AreAlike (is_falling ns) g P Q → all_rise g P (rank_in ns) ≡ all_rise g Q (rank_in ns)
unfolding is_falling
same_rising g P Q ns h = alike_each (rises (rank_in ns)) g P Q h

pub order_shows : (g : Digraph) (P : List Bool) (ns : List ℕ) (e : Evidence) → IsGraph g → All (λ u. u < g.nodes) ns → IsTrue (is_order g P ns) → IsOrderEvidence g P ns e → IsEvidence g P kind.Acyclic e
order_shows g P ns e ok known h is =
    subst (IsEvidence g P kind.Acyclic) (sym is.is)
    (resting_evidence (is_falling ns) g P kind.Acyclic (by.Order ns) (absent_falling g P is.rank) refl (nodes-known g ns known) refl
    (λ Q same. ap (λ b. is_distinct ns && list_all (has ns) (nodes_of g) && b) (same_rising g P Q ns same)) (falling_are_absent g P ns is.rank ok is.ranks) h)

pub order_once : (g : Digraph) (P : List Bool) (ns : List ℕ) → IsTrue (is_order g P ns) → IsTrue (is_distinct ns)
order_once g P ns h = (and_parts (is_distinct ns) (list_all (has ns) (nodes_of g)) (and_parts (is_distinct ns && list_all (has ns) (nodes_of g)) (all_rise g P (rank_in ns)) h).0).0
