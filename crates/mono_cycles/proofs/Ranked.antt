-- A list of all nodes in which each present edge begins before it ends is an order.
use Rattle.std.proofs.Common.{◌≡◌, ℕ, zero, suc, ◌+◌, ◌<◌, ◌≤◌, Bool, true, false, not, ◌&&◌, ◌||◌, cond, List, [], ◌∷◌, ◌++◌, set, length, take, get_or, refl, sym, ap, subst, ◌∙◌, inl, inr, arith, zero-add}
use Rattle.std.specs.Prelude.{IsTrue, nat_lt}
use Rattle.std.specs.List.{list_all, range_with_len}
use Rattle.std.proofs.lemmas.Bool.{and_from, and_left, and_right, cases_eq, cases_Bool, both_ways, eq-eqb, ne_eqb, lt-ltb, le-ltb, false_from_ne_true}
use Rattle.std.proofs.lemmas.List.{take_more, take_all, length-set, get_or-set_same, get_or-set_other}
use Rattle.mono_graph.specs.declared.edge.Edge.{Edge}
use Rattle.mono_graph.specs.Digraph.{Digraph, HasEnds, no_edge, present, edge_at, has, is_distinct, nodes_of}
use Rattle.mono_graph.proofs.Places.{all_of, list_all_agree, range_more, range_fails}
use Rattle.mono_graph.proofs.Membership.{has_cons, has_here, has_there}
use Rattle.mono_graph.proofs.Prefixes.{distinct_new, distinct_take, not_distinct, take_has, has_new, has_other}
use Rattle.mono_graph.specs.Cycles.{rank_in, rises, all_rise, is_order}
use Rattle.mono_cycles.specs.Searches.{IsRising}
use Rattle.mono_graph.proofs.RisingRanks.{all_climb}

pub rank_here : (v u : ℕ) (vs : List ℕ) → v ≡ u → rank_in (v ∷ vs) u ≡ 0
rank_here v u vs e = ap (λ (b : Bool). cond b 0 (suc (rank_in vs u))) (eq-eqb v u e)

pub rank_there : (v u : ℕ) (vs : List ℕ) → (v ≡ u → ⊥) → rank_in (v ∷ vs) u ≡ suc (rank_in vs u)
rank_there v u vs ne = ap (λ (b : Bool). cond b 0 (suc (rank_in vs u))) (ne_eqb v u ne)

pub rank_at : (vs : List ℕ) (u : ℕ) → IsTrue (has vs u) → (rank_in vs u < length vs) × (get_or vs (rank_in vs u) 0 ≡ u)
rank_at [] u h = absurd cc
rank_at (v ∷ vs) u h = elim (cases_eq v u) [
  | inl e ↦ let z = rank_here v u vs e in subst (λ (r : ℕ). (r < length (v ∷ vs)) × (get_or (v ∷ vs) r 0 ≡ u)) (sym z) (omega arith, e)
  | inr ne ↦
      let z = rank_there v u vs ne in
      let rest = rank_at vs u (elim (has_cons v u vs h) [ inl e ↦ absurd (ne e) | inr t ↦ t ]) in
      subst (λ (r : ℕ). (r < length (v ∷ vs)) × (get_or (v ∷ vs) r 0 ≡ u)) (sym z) (let lt = rest.0 in omega arith, rest.1)
]

pub rank_before : (vs : List ℕ) (i u : ℕ) → IsTrue (has (take i vs) u) → rank_in vs u < i
rank_before vs zero u h = absurd cc
rank_before [] (suc i) u h = absurd cc
rank_before (v ∷ vs) (suc i) u h = elim (cases_eq v u) [
  | inl e ↦ let z = rank_here v u vs e in omega (arith, z)
  | inr ne ↦
      let z = rank_there v u vs ne in
      let rest = rank_before vs i u (elim (has_cons v u (take i vs) h) [ inl e ↦ absurd (ne e) | inr t ↦ t ]) in
      omega (arith, z, rest)
]

pub order_of : (g : Digraph) (P : List Bool) (ns : List ℕ) → HasEnds g → IsRising g P ns → IsTrue (is_distinct ns) → ((u : ℕ) → u < g.nodes → IsTrue (has ns u)) → IsTrue (is_order g P ns)
order_of g P ns ends rising once each =
    and_from (is_distinct ns && list_all (has ns) (nodes_of g)) (all_rise g P (rank_in ns))
    (and_from (is_distinct ns) (list_all (has ns) (nodes_of g)) once (all_of (has ns) 0 g.nodes (λ u low high. each u (omega arith))))
    (all_climb g P (rank_in ns) (record {
      step = λ k lt here.
          let at = rank_at ns (edge_at g k).to (each (edge_at g k).to (ends k no_edge lt).1) in
          rank_before ns (rank_in ns (edge_at g k).to) (edge_at g k).from (rising.each (rank_in ns (edge_at g k).to) k at.0 lt here (sym at.1));
    }))

pub rank_absent : (vs : List ℕ) (u : ℕ) → has vs u ≡ false → rank_in vs u ≡ length vs
rank_absent [] u h = refl
rank_absent (v ∷ vs) u h = elim (cases_eq v u) [
  | inl e ↦ absurd (both_ways (has (v ∷ vs) u) h (subst (λ (w : ℕ). IsTrue (has (v ∷ vs) w)) e (has_here v vs)))
  | inr ne ↦ rank_there v u vs ne ∙ ap suc (rank_absent vs u (false_from_ne_true (has vs u) (λ t. both_ways (has (v ∷ vs) u) h (has_there v u vs t))))
]

pub rank_first : (vs : List ℕ) (i u : ℕ) → i < length vs → get_or vs i 0 ≡ u → has (take i vs) u ≡ false → rank_in vs u ≡ i
rank_first [] i u lt e none = absurd (omega arith)
rank_first (v ∷ vs) zero u lt e none = rank_here v u vs e
rank_first (v ∷ vs) (suc i) u lt e none = elim (cases_eq v u) [
  | inl s ↦ absurd (both_ways (has (v ∷ take i vs) u) none (subst (λ (w : ℕ). IsTrue (has (v ∷ take i vs) w)) s (has_here v (take i vs))))
  | inr ne ↦ rank_there v u vs ne ∙ ap suc (rank_first vs i u (omega arith) e (false_from_ne_true (has (take i vs) u) (λ t. both_ways (has (v ∷ take i vs) u) none (has_there v u (take i vs) t))))
]

-- ---- a table of ranks

-- the first i nodes of the list, no two the same, have their ranks, and the others the length of the list
pub record AreRanked (ns ranks : List ℕ) (i : ℕ) : Type 0 where
  pub once : IsTrue (is_distinct (take i ns))
  pub listed : (u : ℕ) → u < length ranks → IsTrue (has (take i ns) u) → get_or ranks u 0 ≡ rank_in ns u
  pub others : (u : ℕ) → u < length ranks → has (take i ns) u ≡ false → get_or ranks u 0 ≡ length ns

-- a rank that is below the length was given before
pub was_listed : (ns ranks : List ℕ) (i u : ℕ) → u < length ranks → AreRanked ns ranks i → get_or ranks u 0 < length ns → IsTrue (has (take i ns) u)
was_listed ns ranks i u lt r low = elim (cases_Bool (has (take i ns) u)) [ inl on ↦ on | inr off ↦ absurd (let e = r.others u lt off in omega arith) ]

pub not_listed : (ns ranks : List ℕ) (i u : ℕ) → u < length ranks → AreRanked ns ranks i → length ns ≤ get_or ranks u 0 → has (take i ns) u ≡ false
not_listed ns ranks i u lt r high = false_from_ne_true (has (take i ns) u) (λ t.
    let e = r.listed u lt t in
    let at = (rank_at ns u (take_has ns i u t)).0 in omega arith)

pub twice : (ns ranks : List ℕ) (i : ℕ) → i < length ns → IsTrue (has (take i ns) (get_or ns i 0)) → is_distinct ns ≡ false
twice ns ranks i lt h = false_from_ne_true (is_distinct ns) (λ d. not_distinct (take i ns) (get_or ns i 0) h (subst (λ (ks : List ℕ). IsTrue (is_distinct ks)) (take_more ns i 0 lt) (distinct_take ns (i + 1) d)))

pub ranked_more : (ns ranks : List ℕ) (i : ℕ) → i < length ns → get_or ns i 0 < length ranks → AreRanked ns ranks i → has (take i ns) (get_or ns i 0) ≡ false → AreRanked ns (set ranks (get_or ns i 0) i) (i + 1)
ranked_more ns ranks i lt below r new =
    let v : ℕ = get_or ns i 0 in
    let more : take (i + 1) ns ≡ take i ns ++ v ∷ [] = take_more ns i 0 lt in
    record {
      once = subst (λ (ks : List ℕ). IsTrue (is_distinct ks)) (sym more) (distinct_new (take i ns) v r.once new);
      listed = λ u low h. elim (cases_eq v u) [
        | inl e ↦ subst (λ (w : ℕ). get_or (set ranks v i) w 0 ≡ rank_in ns w) e (get_or-set_same ranks v i 0 below ∙ sym (rank_first ns i v lt refl new))
        | inr ne ↦
            get_or-set_other ranks v u i 0 (λ q. ne (sym q))
            ∙ r.listed u (omega (arith, length-set ranks v i)) (sym (has_other (take i ns) v u ne) ∙ (ap (λ (ks : List ℕ). has ks u) (sym more) ∙ h))
      ];
      others = λ u low h. elim (cases_eq v u) [
        | inl e ↦ absurd (both_ways (has (take (i + 1) ns) u) h (subst (λ (ks : List ℕ). IsTrue (has ks u)) (sym more) (subst (λ (w : ℕ). IsTrue (has (take i ns ++ v ∷ []) w)) e (has_new (take i ns) v))))
        | inr ne ↦
            get_or-set_other ranks v u i 0 (λ q. ne (sym q))
            ∙ r.others u (omega (arith, length-set ranks v i)) (sym (has_other (take i ns) v u ne) ∙ (ap (λ (ks : List ℕ). has ks u) (sym more) ∙ h))
      ];
    }

pub ranked_all : (ns ranks : List ℕ) (i : ℕ) → length ns ≤ i → AreRanked ns ranks i → IsTrue (is_distinct ns) × ((u : ℕ) → u < length ranks → get_or ranks u 0 ≡ rank_in ns u)
ranked_all ns ranks i le r =
    let all : take i ns ≡ ns = take_all i ns le in (
      subst (λ (ks : List ℕ). IsTrue (is_distinct ks)) all r.once,
      λ u lt. elim (cases_Bool (has (take i ns) u)) [
        | inl on ↦ r.listed u lt on
        | inr off ↦ r.others u lt off ∙ sym (rank_absent ns u (subst (λ (ks : List ℕ). has ks u ≡ false) all off))
      ],
    )

pub ranked_none : (ns ranks : List ℕ) → ((u : ℕ) → u < length ranks → get_or ranks u 0 ≡ length ns) → AreRanked ns ranks 0
ranked_none ns ranks same = record { once = refl; listed = λ u lt h. absurd cc; others = λ u lt h. same u lt }

-- all nodes are listed where all ranks are below the length
listed_below : (ns : List ℕ) (u : ℕ) → nat_lt (rank_in ns u) (length ns) ≡ has ns u
listed_below ns u = elim (cases_Bool (has ns u)) [
  | inl on ↦ lt-ltb (rank_in ns u) (length ns) (rank_at ns u on).0 ∙ sym on
  | inr off ↦ le-ltb (rank_in ns u) (length ns) (let e = rank_absent ns u off in omega arith) ∙ sym off
]

pub all_listed : (ns ranks : List ℕ) (n : ℕ) → n ≤ length ranks → ((u : ℕ) → u < length ranks → get_or ranks u 0 ≡ rank_in ns u)
    → list_all (λ u. nat_lt (get_or ranks u 0) (length ns)) (range_with_len 0 n) ≡ list_all (has ns) (range_with_len 0 n)
all_listed ns ranks n le same = list_all_agree (λ u. nat_lt (get_or ranks u 0) (length ns)) (has ns) 0 n (λ k low high. ap (λ (r : ℕ). nat_lt r (length ns)) (same k (omega arith)) ∙ listed_below ns k)

pub rises_same : (g : Digraph) (P : List Bool) (f h : ℕ → ℕ) → HasEnds g → ((u : ℕ) → u < g.nodes → f u ≡ h u) → all_rise g P f ≡ all_rise g P h
rises_same g P f h ends same = list_all_agree (λ k. not (present P k) || rises f (edge_at g k)) (λ k. not (present P k) || rises h (edge_at g k)) 0 (length g.edges)
    (λ k low high.
    let e = ends k no_edge (omega arith) in
    let a : f (edge_at g k).from ≡ h (edge_at g k).from = same (edge_at g k).from e.0 in
    let b : f (edge_at g k).to ≡ h (edge_at g k).to = same (edge_at g k).to e.1 in
    ap (λ (x : ℕ). not (present P k) || nat_lt x (f (edge_at g k).to)) a ∙ ap (λ (x : ℕ). not (present P k) || nat_lt (h (edge_at g k).from) x) b)

-- ---- tests of all numbers up to one

pub one_more : (p : ℕ → Bool) (n : ℕ) → IsTrue (list_all p (range_with_len 0 n)) → IsTrue (p n) → IsTrue (list_all p (range_with_len 0 (n + 1)))
one_more p n h t = range_more p 0 n h (subst (λ (k : ℕ). IsTrue (p k)) (sym (zero-add n)) t)

risen : (p r : Bool) → (IsTrue p → IsTrue r) → IsTrue (not p || r)
risen true r f = f refl
risen false r f = refl

fallen : (p r : Bool) → IsTrue p → r ≡ false → (not p || r) ≡ false
fallen true r h f = f
fallen false r h f = absurd cc

pub rise_more : (g : Digraph) (P : List Bool) (rank : ℕ → ℕ) (n : ℕ) (e : Edge) → e ≡ edge_at g n → (IsTrue (present P n) → rank e.from < rank e.to)
    → IsTrue (list_all (λ k. not (present P k) || rises rank (edge_at g k)) (range_with_len 0 n)) → IsTrue (list_all (λ k. not (present P k) || rises rank (edge_at g k)) (range_with_len 0 (n + 1)))
rise_more g P rank n e is up h = one_more (λ k. not (present P k) || rises rank (edge_at g k)) n h
    (risen (present P n) (rises rank (edge_at g n)) (λ here. subst (λ (x : Edge). IsTrue (rises rank x)) is (lt-ltb (rank e.from) (rank e.to) (up here))))

pub rise_fails : (g : Digraph) (P : List Bool) (rank : ℕ → ℕ) (n : ℕ) (e : Edge) → e ≡ edge_at g n → n < length g.edges → IsTrue (present P n) → rank e.to ≤ rank e.from → all_rise g P rank ≡ false
rise_fails g P rank n e is lt here down = range_fails (λ k. not (present P k) || rises rank (edge_at g k)) 0 (length g.edges) n (omega arith) (omega arith)
    (fallen (present P n) (rises rank (edge_at g n)) here (subst (λ (x : Edge). rises rank x ≡ false) is (le-ltb (rank e.from) (rank e.to) down)))

pub not_once : (g : Digraph) (P : List Bool) (ns : List ℕ) → is_distinct ns ≡ false → is_order g P ns ≡ false
not_once g P ns off = and_left (is_distinct ns && list_all (has ns) (nodes_of g)) (all_rise g P (rank_in ns)) (and_left (is_distinct ns) (list_all (has ns) (nodes_of g)) off)

pub not_all : (g : Digraph) (P : List Bool) (ns ranks : List ℕ) → length ranks ≡ g.nodes → ((u : ℕ) → u < length ranks → get_or ranks u 0 ≡ rank_in ns u)
    → list_all (λ u. nat_lt (get_or ranks u 0) (length ns)) (range_with_len 0 (length ranks)) ≡ false → is_order g P ns ≡ false
not_all g P ns ranks len same off =
    let listed : list_all (has ns) (nodes_of g) ≡ false = subst (λ (n : ℕ). list_all (has ns) (range_with_len 0 n) ≡ false) len (sym (all_listed ns ranks (length ranks) (omega arith) same) ∙ off) in
    and_left (is_distinct ns && list_all (has ns) (nodes_of g)) (all_rise g P (rank_in ns)) (and_right (is_distinct ns) (list_all (has ns) (nodes_of g)) listed)

pub order_decided : (g : Digraph) (P : List Bool) (ns ranks : List ℕ) → HasEnds g → length ranks ≡ g.nodes → ((u : ℕ) → u < length ranks → get_or ranks u 0 ≡ rank_in ns u) → is_distinct ns ≡ true
    → list_all (λ u. nat_lt (get_or ranks u 0) (length ns)) (range_with_len 0 (length ranks)) ≡ true → all_rise g P (λ u. get_or ranks u 0) ≡ is_order g P ns
order_decided g P ns ranks ends len same once on =
    let listed : list_all (has ns) (nodes_of g) ≡ true = subst (λ (n : ℕ). list_all (has ns) (range_with_len 0 n) ≡ true) len (sym (all_listed ns ranks (length ranks) (omega arith) same) ∙ on) in
    let both : (is_distinct ns && list_all (has ns) (nodes_of g)) ≡ true = and_from (is_distinct ns) (list_all (has ns) (nodes_of g)) once listed in
    rises_same g P (λ u. get_or ranks u 0) (rank_in ns) ends (λ u lt. same u (omega arith))
    ∙ ap (λ (b : Bool). b && all_rise g P (rank_in ns)) (sym both)
