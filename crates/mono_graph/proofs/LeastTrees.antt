-- No spanning tree of present edges weighs less than one that joins the ends of each present edge by edges no heavier.
use Rattle.std.proofs.Common.{◌≡◌, ℕ, zero, suc, ◌+◌, ◌<◌, ◌≤◌, min, Bool, true, false, not, ◌&&◌, ◌||◌, ◌==◌, cond, List, [], ◌∷◌, ◌++◌, length, filter, refl, ap, subst, ◌∙◌, inl, inr, arith, append-nil, ℤ, pos, ◌≤ℤ◌, ◌<ℤ◌, int_lt, int_le}
use Rattle.std.specs.Prelude.{IsTrue, nat_le}
use Rattle.std.specs.List.{list_all, range_with_len}
use Rattle.std.proofs.lemmas.Bool.{and_parts, and_from, eqb-true, or_cases, or_left, or_right, not-true, not_from_false, leb-true, leb-false, lt-leb}
use Rattle.std.proofs.lemmas.List.Sums.{sum_by-cons}
use Rattle.std.proofs.lemmas.List.{length-map}
use Rattle.std.proofs.lemmas.Int.{ints}
use Rattle.mono_graph.specs.declared.edge.Edge.{Edge}
use Rattle.mono_graph.specs.Digraph.{Digraph, present, places, is_place, nodes_of, edge_at, is_distinct, weight_of}
use Rattle.mono_graph.specs.Trees.{joins, edges_at, is_spanning_tree, is_tree, is_least, is_bridged, component_count}
use Rattle.mono_graph.proofs.Places.{at_place}
use Rattle.mono_graph.proofs.Parts.{list_all_weaker}
use Rattle.mono_graph.proofs.CutsBoundWalks.{lt_from_test, le_from_test}
use Rattle.mono_graph.proofs.Joins.{joins_by, kept_edges, all_filter, joins-append_left, joins-append_right, has_joined}
use Rattle.mono_graph.proofs.Components.{component_count-le, component_count-append, component_count-none, component_count-one}

abbrev light : ℕ → Edge → Bool
light w e = nat_le e.weight w

abbrev heavy : ℕ → Edge → Bool
heavy w e = not (light w e)

-- ---- weights from counts

abbrev total_weight : List Edge → ℕ
total_weight [] = 0
total_weight (e ∷ es) = e.weight + total_weight es

abbrev capped : ℕ → List Edge → ℕ
capped m [] = 0
capped m (e ∷ es) = min e.weight m + capped m es

abbrev light_count : ℕ → List Edge → ℕ
light_count w es = length (filter (light w) es)

capped-suc : (m : ℕ) (es : List Edge) → capped (suc m) es + light_count m es ≡ capped m es + length es
capped-suc m [] = refl
capped-suc m (e ∷ es) = by_test (light m e) refl (capped-suc m es)
  where
    by_test : (b : Bool) → light m e ≡ b → capped (suc m) es + light_count m es ≡ capped m es + length es
        → (min e.weight (suc m) + capped (suc m) es) + length (cond b (e ∷ filter (light m) es) (filter (light m) es)) ≡ (min e.weight m + capped m es) + suc (length es)
    by_test true t rest = let le : e.weight ≤ m = leb-true e.weight m t in omega (arith, rest, le)
    by_test false t rest = let gt : m < e.weight = leb-false e.weight m t in omega (arith, rest, gt)

capped-zero : (es : List Edge) → capped 0 es ≡ 0
capped-zero [] = refl
capped-zero (e ∷ es) = omega (arith, capped-zero es)

capped-all : (m : ℕ) (es : List Edge) → total_weight es ≤ m → capped m es ≡ total_weight es
capped-all m [] h = refl
capped-all m (e ∷ es) h = omega (arith, capped-all m es (omega arith))

capped-le : (es fs : List Edge) → length es ≡ length fs → ((w : ℕ) → light_count w fs ≤ light_count w es) → (m : ℕ) → capped m es ≤ capped m fs
capped-le es fs same counts zero = omega (arith, capped-zero es, capped-zero fs)
capped-le es fs same counts (suc m) = omega (arith, same, counts m, capped-suc m es, capped-suc m fs, capped-le es fs same counts m)

total_weight-le : (es fs : List Edge) → length es ≡ length fs → ((w : ℕ) → light_count w fs ≤ light_count w es) → total_weight es ≤ total_weight fs
total_weight-le es fs same counts =
    let m : ℕ = total_weight es + total_weight fs in
    omega (arith, capped-all m es (omega arith), capped-all m fs (omega arith), capped-le es fs same counts m)

weight_of-total : (g : Digraph) (ks : List ℕ) → weight_of g ks ≡ total_weight (edges_at g ks)
weight_of-total g [] = refl
weight_of-total g (k ∷ ks) = sum_by-cons (λ j. (edge_at g j).weight) k ks ∙ ap (λ (n : ℕ). (edge_at g k).weight + n) (weight_of-total g ks)

-- ---- counts from parts

filter-split : (p : Edge → Bool) (es : List Edge) → length (filter p es) + length (filter (λ e. not (p e)) es) ≡ length es
filter-split p [] = refl
filter-split p (e ∷ es) = by_test (p e) (filter-split p es)
  where
    by_test : (b : Bool) → length (filter p es) + length (filter (λ x. not (p x)) es) ≡ length es
        → length (cond b (e ∷ filter p es) (filter p es)) + length (cond (not b) (e ∷ filter (λ x. not (p x)) es) (filter (λ x. not (p x)) es)) ≡ suc (length es)
    by_test true rest = omega (arith, rest)
    by_test false rest = omega (arith, rest)

both_all : (p q : Edge → Bool) (es : List Edge) → IsTrue (list_all p es) → IsTrue (list_all q es) → IsTrue (list_all (λ e. p e && q e) es)
both_all p q [] h k = refl
both_all p q (e ∷ es) h k =
    let a = and_parts (p e) (list_all p es) h in
    let b = and_parts (q e) (list_all q es) k in
    and_from (p e && q e) (list_all (λ x. p x && q x) es) (and_from (p e) (q e) a.0 b.0) (both_all p q es a.1 b.1)

not_not : (b : Bool) → IsTrue (not (not b)) → IsTrue b
not_not true h = refl
not_not false h = absurd cc

-- the light and the heavy edges together join what all of them do
regrouped : (w : ℕ) (es : List Edge) (u v : ℕ) → IsTrue (joins es u v) → IsTrue (joins (filter (heavy w) es ++ filter (light w) es) u v)
regrouped w es = joins_by es (filter (heavy w) es ++ filter (light w) es)
    (list_all_weaker (λ e. (not (heavy w e) || has_joined (filter (heavy w) es) e) && (not (light w e) || has_joined (filter (light w) es) e)) (has_joined (filter (heavy w) es ++ filter (light w) es))
    (λ e h. let a = and_parts (not (heavy w e) || has_joined (filter (heavy w) es) e) (not (light w e) || has_joined (filter (light w) es) e) h in
    elim (or_cases (not (light w e)) (has_joined (filter (light w) es) e) a.1) [
      | inr l ↦ joins-append_right (filter (heavy w) es) (filter (light w) es) e.from e.to l
      | inl is-heavy ↦ elim (or_cases (not (heavy w e)) (has_joined (filter (heavy w) es) e) a.0) [
        | inr r ↦ joins-append_left (filter (heavy w) es) (filter (light w) es) e.from e.to r
        | inl is-light ↦ absurd (let x = not_not (light w e) is-light in cc)
      ]
    ]) es
    (both_all (λ e. not (heavy w e) || has_joined (filter (heavy w) es) e) (λ e. not (light w e) || has_joined (filter (light w) es) e) es (kept_edges (heavy w) es) (kept_edges (light w) es)))

-- the light edges of a tree that bridges another join all that the light edges of the other join
abbrev bridged : List Edge → Edge → Bool
bridged es e = joins (filter (light e.weight) es) e.from e.to

lighter : (es : List Edge) (v w : ℕ) → v ≤ w → (x y : ℕ) → IsTrue (joins (filter (light v) es) x y) → IsTrue (joins (filter (light w) es) x y)
lighter es v w le = joins_by (filter (light v) es) (filter (light w) es)
    (all_filter (light v) (has_joined (filter (light w) es)) es
    (list_all_weaker (λ e. not (light w e) || has_joined (filter (light w) es) e) (λ e. not (light v e) || has_joined (filter (light w) es) e)
    (λ e h. elim (or_cases (not (light w e)) (has_joined (filter (light w) es) e) h) [
      | inr j ↦ or_right (not (light v e)) (has_joined (filter (light w) es) e) j
      | inl n ↦ or_left (not (light v e)) (has_joined (filter (light w) es) e) (heavier e n)
    ]) es (kept_edges (light w) es)))
  where
    heavier : (e : Edge) → IsTrue (heavy w e) → IsTrue (heavy v e)
    heavier e n = not_from_false (light v e) (lt-leb e.weight v (let gt : w < e.weight = leb-false e.weight w (not-true (light w e) n) in omega arith))

light_joins : (es fs : List Edge) (w : ℕ) → IsTrue (list_all (bridged es) fs) → (u v : ℕ) → IsTrue (joins (filter (light w) fs) u v) → IsTrue (joins (filter (light w) es) u v)
light_joins es fs w h = joins_by (filter (light w) fs) (filter (light w) es)
    (all_filter (light w) (has_joined (filter (light w) es)) fs
    (list_all_weaker (bridged es) (λ e. not (light w e) || has_joined (filter (light w) es) e)
    (λ e b. by_test e (light w e) refl b) fs h))
  where
    by_test : (e : Edge) (t : Bool) → light w e ≡ t → IsTrue (bridged es e) → IsTrue (not (light w e) || has_joined (filter (light w) es) e)
    by_test e true t b = or_right (not (light w e)) (has_joined (filter (light w) es) e) (lighter es e.weight w (leb-true e.weight w t) e.from e.to b)
    by_test e false t b = or_left (not (light w e)) (has_joined (filter (light w) es) e) (not_from_false (light w e) t)

light_count-le : (es fs : List Edge) (n w : ℕ) → suc (length fs) ≡ n → IsTrue (list_all (joins fs 0) (range_with_len 0 n)) → IsTrue (list_all (bridged es) fs) → light_count w fs ≤ light_count w es
light_count-le es fs n w size whole h =
    let T : List Edge = filter (light w) es in
    let O : List Edge = filter (light w) fs in
    let R : List Edge = filter (heavy w) fs in
    let a : component_count [] n ≤ component_count (T ++ []) n + length T = component_count-append T [] n in
    let a' : component_count [] n ≤ component_count T n + length T = subst (λ (x : List Edge). component_count [] n ≤ component_count x n + length T) (append-nil T) a in
    let b : component_count T n ≤ component_count O n = component_count-le O T n (light_joins es fs w h) in
    let c : component_count O n ≤ component_count (R ++ O) n + length R = component_count-append R O n in
    let d : component_count (R ++ O) n ≤ component_count fs n = component_count-le fs (R ++ O) n (regrouped w fs) in
    let e : component_count fs n ≤ 1 = component_count-one fs n whole in
    let f : length O + length R ≡ length fs = filter-split (light w) fs in
    let z : n ≤ component_count [] n = component_count-none n in
    omega (arith, a', b, c, d, e, f, z, size)

edges_all : (g : Digraph) (P : List Bool) (r : Edge → Bool) → ((k : ℕ) → IsTrue (is_place g k) → IsTrue (present P k) → IsTrue (r (edge_at g k))) → (ks : List ℕ) → IsTrue (list_all (is_place g) ks) → IsTrue (list_all (present P) ks) → IsTrue (list_all r (edges_at g ks))
edges_all g P r each [] known h = refl
edges_all g P r each (k ∷ ks) known h =
    let q = and_parts (is_place g k) (list_all (is_place g) ks) known in
    let a = and_parts (present P k) (list_all (present P) ks) h in
    and_from (r (edge_at g k)) (list_all r (edges_at g ks)) (each k q.0 a.0) (edges_all g P r each ks q.1 a.1)

on_present : (p b : Bool) → IsTrue (not p || b) → IsTrue p → IsTrue b
on_present true b h e = h
on_present false b h e = absurd cc

-- the tree is no heavier than any spanning tree in the part
pub least-le : (g : Digraph) (P : List Bool) (tree other : List ℕ)
    → IsTrue (is_spanning_tree g tree) → IsTrue (list_all (λ k. not (present P k) || is_bridged g tree (edge_at g k)) (places g))
    → IsTrue (list_all (present P) other) → IsTrue (is_spanning_tree g other) → weight_of g tree ≤ weight_of g other
least-le g P tree other spans bridges here spans-other =
    let size-tree = size g tree spans in
    let size-other = size g other spans-other in
    let parts-other = and_parts _ (list_all (joins (edges_at g other) 0) (nodes_of g)) spans-other in
    let whole-other = parts-other.1 in
    let known-other = (and_parts (suc (length other) == g.nodes && is_distinct other) (list_all (is_place g) other) parts-other.0).1 in
    let each : IsTrue (list_all (bridged (edges_at g tree)) (edges_at g other)) = edges_all g P (bridged (edges_at g tree))
    (λ k place at. on_present (present P k) (is_bridged g tree (edge_at g k)) (at_place (λ j. not (present P j) || is_bridged g tree (edge_at g j)) g bridges k place) at) other known-other here in
    let lengths : length (edges_at g tree) ≡ length (edges_at g other) = omega (arith, size-tree, size-other) in
    let le : total_weight (edges_at g tree) ≤ total_weight (edges_at g other) = total_weight-le (edges_at g tree) (edges_at g other) lengths
    (λ w. light_count-le (edges_at g tree) (edges_at g other) g.nodes w size-other whole-other each) in
    rw (weight_of-total g tree, weight_of-total g other) le
  where
    size : (h : Digraph) (ks : List ℕ) → IsTrue (is_spanning_tree h ks) → suc (length (edges_at h ks)) ≡ h.nodes
    size h ks t =
        let a = and_parts _ (list_all (joins (edges_at h ks) 0) (nodes_of h)) t in
        let b = and_parts _ (list_all (is_place h) ks) a.0 in
        let c = and_parts (suc (length ks) == h.nodes) (is_distinct ks) b.0 in
        let n = eqb-true (suc (length ks)) h.nodes c.0 in
        omega (arith, n, length-map ks (edge_at h))

-- what passes as a least tree is no heavier than a tree in the part
pub is_least-le : (g : Digraph) (P : List Bool) (most limit : ℤ) (tree other : List ℕ) → IsTrue (is_least g P most tree) → IsTrue (is_tree g P limit other)
    → weight_of g tree ≤ weight_of g other
is_least-le g P most limit tree other least tr =
    let a = and_parts (is_spanning_tree g tree && int_lt most (pos (weight_of g tree))) (list_all (λ k. not (present P k) || is_bridged g tree (edge_at g k)) (places g)) least in
    let b = and_parts (is_spanning_tree g tree) (int_lt most (pos (weight_of g tree))) a.0 in
    let c = and_parts (list_all (present P) other && is_spanning_tree g other) (int_le (pos (weight_of g other)) limit) tr in
    let d = and_parts (list_all (present P) other) (is_spanning_tree g other) c.0 in
    least-le g P tree other b.0 a.1 d.0 d.1

pub least_excludes : (g : Digraph) (P : List Bool) (most : ℤ) (tree other : List ℕ) → IsTrue (is_least g P most tree) → IsTrue (is_tree g P most other) → ⊥
least_excludes g P most tree other least tr =
    let a = and_parts (is_spanning_tree g tree && int_lt most (pos (weight_of g tree))) (list_all (λ k. not (present P k) || is_bridged g tree (edge_at g k)) (places g)) least in
    let b = and_parts (is_spanning_tree g tree) (int_lt most (pos (weight_of g tree))) a.0 in
    let c = and_parts (list_all (present P) other && is_spanning_tree g other) (int_le (pos (weight_of g other)) most) tr in
    let above : most <ℤ pos (weight_of g tree) = lt_from_test _ _ b.1 in
    let below : pos (weight_of g other) ≤ℤ most = le_from_test _ _ c.1 in
    let le = is_least-le g P most most tree other least tr in
    omega (arith, ints, le, above, below)
