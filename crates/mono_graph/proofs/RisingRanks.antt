-- Ranks that rise along each present edge exclude cycles.
use Rattle.std.proofs.Common.{ℕ, ◌+◌, ◌<◌, ◌≤◌, Bool, true, false, not, ◌&&◌, ◌||◌, List, [], ◌∷◌, length, refl, sym, subst, arith}
use Rattle.std.specs.Prelude.{IsTrue, ◌==◌}
use Rattle.std.specs.List.{list_all}
use Rattle.std.proofs.lemmas.Bool.{and_parts, and_from, eqb-true, ltb-true, lt-ltb}
use Rattle.mono_graph.specs.Digraph.{Digraph, present, is_place, nodes_of, edge_at, has, is_distinct, IsSubpart}
use Rattle.mono_graph.specs.Walks.{is_walk, leads}
use Rattle.mono_graph.proofs.Places.{all_of, all_below}
use Rattle.mono_graph.proofs.Subparts.{is_walk-larger}
use Rattle.mono_graph.specs.Cycles.{is_cycle, is_order, IsAcyclic, rank_in, rises, all_rise}

pub record Climbs (g : Digraph) (P : List Bool) (rank : ℕ → ℕ) : Type 0 where
  pub step : (k : ℕ) → k < length g.edges → IsTrue (present P k) → rank (edge_at g k).from < rank (edge_at g k).to

implied : (p b : Bool) → IsTrue (not p || b) → IsTrue p → IsTrue b
implied true b h e = h
implied false b h e = absurd cc

imply : (p b : Bool) → (IsTrue p → IsTrue b) → IsTrue (not p || b)
imply true b f = f refl
imply false b f = refl

pub climbs : (g : Digraph) (P : List Bool) (rank : ℕ → ℕ) → IsTrue (all_rise g P rank) → Climbs g P rank
climbs g P rank h = record {
  step = λ k lt here. ltb-true (rank (edge_at g k).from) (rank (edge_at g k).to)
      (implied (present P k) (rises rank (edge_at g k)) (all_below (λ j. not (present P j) || rises rank (edge_at g j)) 0 (length g.edges) h k (omega arith) (omega arith)) here);
}

pub all_climb : (g : Digraph) (P : List Bool) (rank : ℕ → ℕ) → Climbs g P rank → IsTrue (all_rise g P rank)
all_climb g P rank c = all_of (λ j. not (present P j) || rises rank (edge_at g j)) 0 (length g.edges)
    (λ k low high. imply (present P k) (rises rank (edge_at g k)) (λ here. lt-ltb (rank (edge_at g k).from) (rank (edge_at g k).to) (c.step k (omega arith) here)))

climbs_along : (g : Digraph) (P : List Bool) (rank : ℕ → ℕ) → Climbs g P rank → (u : ℕ) (ks : List ℕ) (v : ℕ)
    → IsTrue (list_all (is_place g) ks) → IsTrue (list_all (present P) ks) → IsTrue (leads g u ks v) → rank u + length ks ≤ rank v
climbs_along g P rank c u [] v known here way = subst (λ (w : ℕ). rank u + 0 ≤ rank w) (eqb-true u v way) (omega arith)
climbs_along g P rank c u (k ∷ ks) v known here way =
    let q = and_parts (is_place g k) (list_all (is_place g) ks) known in
    let p = and_parts (present P k) (list_all (present P) ks) here in
    let w = and_parts ((edge_at g k).from == u) (leads g (edge_at g k).to ks v) way in
    let step : rank u < rank (edge_at g k).to = subst (λ (x : ℕ). rank x < rank (edge_at g k).to) (eqb-true (edge_at g k).from u w.0) (c.step k (ltb-true k (length g.edges) q.0) p.0) in
    let rest : rank (edge_at g k).to + length ks ≤ rank v = climbs_along g P rank c (edge_at g k).to ks v q.1 p.1 w.1 in
    omega (arith, step, rest)

pub climbs_acyclic : (g : Digraph) (P : List Bool) (rank : ℕ → ℕ) → Climbs g P rank → IsAcyclic g P
climbs_acyclic g P rank c u walk some h =
    let a = and_parts (list_all (is_place g) walk && list_all (present P) walk) (leads g u walk u) h in
    let b = and_parts (list_all (is_place g) walk) (list_all (present P) walk) a.0 in
    let up : rank u + length walk ≤ rank u = climbs_along g P rank c u walk u b.0 b.1 a.1 in
    omega (arith, up, some)

pub order_acyclic : (g : Digraph) (P : List Bool) (ns : List ℕ) → IsTrue (is_order g P ns) → IsAcyclic g P
order_acyclic g P ns h =
    let a = and_parts (is_distinct ns && list_all (has ns) (nodes_of g)) (all_rise g P (rank_in ns)) h in
    climbs_acyclic g P (rank_in ns) (climbs g P (rank_in ns) a.1)

pub cycle_cyclic : (g : Digraph) (P : List Bool) (ks : List ℕ) → IsTrue (is_cycle g P ks) → IsAcyclic g P → ⊥
cycle_cyclic g P [] h acyclic = absurd cc
cycle_cyclic g P (k ∷ ks) h acyclic = acyclic (edge_at g k).from (k ∷ ks) (omega arith) h

-- a nonempty walk from a node to itself is a cycle
pub is_cycle_of : (g : Digraph) (P : List Bool) (u : ℕ) (ks : List ℕ) → 0 < length ks → IsTrue (is_walk g P u u ks) → IsTrue (is_cycle g P ks)
is_cycle_of g P u [] some h = absurd (omega arith)
is_cycle_of g P u (k ∷ ks) some h =
    let a = and_parts (list_all (is_place g) (k ∷ ks) && list_all (present P) (k ∷ ks)) (leads g u (k ∷ ks) u) h in
    let w = and_parts ((edge_at g k).from == u) (leads g (edge_at g k).to ks u) a.1 in
    subst (λ (v : ℕ). IsTrue (is_walk g P v v (k ∷ ks))) (sym (eqb-true (edge_at g k).from u w.0)) h

pub is_cycle-larger : (g : Digraph) (P Q : List Bool) → IsSubpart P Q → (ks : List ℕ) → IsTrue (is_cycle g P ks) → IsTrue (is_cycle g Q ks)
is_cycle-larger g P Q s [] h = h
is_cycle-larger g P Q s (k ∷ ks) h = is_walk-larger g P Q s (edge_at g k).from (edge_at g k).from (k ∷ ks) h

pub acyclic-smaller : (g : Digraph) (P Q : List Bool) → IsSubpart P Q → IsAcyclic g Q → IsAcyclic g P
acyclic-smaller g P Q s acyclic u walk some h = acyclic u walk some (is_walk-larger g P Q s u u walk h)

pub climbs-smaller : (g : Digraph) (P Q : List Bool) (rank : ℕ → ℕ) → IsSubpart P Q → Climbs g Q rank → Climbs g P rank
climbs-smaller g P Q rank s c = record { step = λ k lt here. c.step k lt (s.keeps k here) }

pub is_order-smaller : (g : Digraph) (P Q : List Bool) → IsSubpart P Q → (ns : List ℕ) → IsTrue (is_order g Q ns) → IsTrue (is_order g P ns)
is_order-smaller g P Q s ns h =
    let a = and_parts (is_distinct ns && list_all (has ns) (nodes_of g)) (all_rise g Q (rank_in ns)) h in
    and_from (is_distinct ns && list_all (has ns) (nodes_of g)) (all_rise g P (rank_in ns)) a.0
    (all_climb g P (rank_in ns) (climbs-smaller g P Q (rank_in ns) s (climbs g Q (rank_in ns) a.1)))
