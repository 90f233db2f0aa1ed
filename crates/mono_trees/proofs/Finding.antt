-- What a grown forest shows.
use Rattle.std.proofs.Common.{◌≡◌, ℕ, zero, suc, ◌+◌, ◌<◌, ◌≤◌, Bool, true, false, not, ◌&&◌, ◌||◌, ◌==◌, cond, List, [], ◌∷◌, length, filter, get_or, refl, sym, ap, subst, ◌∙◌, inl, inr, arith, All, ℤ, pos, int_le, int_lt}
use Rattle.std.specs.Prelude.{IsTrue, nat_le, IsPermutation}
use Rattle.std.specs.List.{list_all, list_any, range_with_len}
use Rattle.std.proofs.lemmas.Bool.{and_parts, and_from, or_left, or_right, eqb-true, eq-eqb, cases_Bool, not_from_false}
use Rattle.std.proofs.lemmas.Int.{ints}
use Rattle.std.proofs.lemmas.List.Sorted.{list_any-IsPermutation, IsPermutation-refl}
use Rattle.mono_graph.specs.declared.edge.Edge.{Edge}
use Rattle.mono_graph.specs.Digraph.{Digraph, IsGraph, edge_at, has, nodes_of, places, present, crosses, no_edge, weight_of}
use Rattle.mono_graph.specs.Trees.{joins, edges_at, is_spanning_tree, is_tree, is_split, is_least, is_bridged, component_count}
use Rattle.mono_graph.proofs.Components.{component_count-one, component_count-some}
use Rattle.mono_graph.proofs.Joins.{has_joined, joins_by, own_edges}
use Rattle.mono_graph.proofs.Places.{all_of, present_below, list_all_agree}
use Rattle.mono_graph.proofs.NodeLists.{filter_same}
use Rattle.mono_graph.proofs.Membership.{all_from, has_get_or, has_filter, filter_has, has_range, range_has, same_truth}
use Rattle.mono_trees.specs.Tells.{same_label}
use Rattle.mono_trees.specs.Grown.{IsGrown, IsForest}
use Rattle.mono_trees.proofs.Spans.{joined_by_labels, spanning_is}

pub order_present : (g : Digraph) (P : List Bool) (order : List ℕ) → IsPermutation (filter (present P) (places g)) order → (k : ℕ) → IsTrue (has order k) → IsTrue (present P k) × (k < length g.edges)
order_present g P order perm k h =
    let r = filter_has (present P) (places g) k (list_any-IsPermutation (λ v. v == k) (filter (present P) (places g)) order perm ∙ h) in
    let b = range_has 0 (length g.edges) k r.0 in
    (r.1, omega (arith, b.1))

pub present_order : (g : Digraph) (P : List Bool) (order : List ℕ) → length P ≡ length g.edges → IsPermutation (filter (present P) (places g)) order → (k : ℕ) → IsTrue (present P k) → IsTrue (has order k)
present_order g P order len perm k h =
    let lt = present_below P k h in
    sym (list_any-IsPermutation (λ v. v == k) (filter (present P) (places g)) order perm)
    ∙ has_filter (present P) (places g) k (has_range 0 (length g.edges) k (omega arith) (omega arith)) h

pub chosen_present : (g : Digraph) (P : List Bool) (chosen labels : List ℕ) → IsForest g P chosen labels → (k : ℕ) → IsTrue (has chosen k) → IsTrue (present P k) × (k < length g.edges)
chosen_present g P chosen labels forest k h = order_present g P (filter (present P) (places g)) (IsPermutation-refl (filter (present P) (places g))) k (forest.within k h)

pub all_present : (g : Digraph) (P : List Bool) (chosen labels lent : List ℕ) → IsForest g P chosen labels → lent ≡ chosen → IsTrue (list_all (present P) lent)
all_present g P chosen labels lent forest e = subst (λ (ks : List ℕ). IsTrue (list_all (present P) ks)) (sym e) (all_from (present P) chosen (λ k h. (chosen_present g P chosen labels forest k h).0))

in_places : (g : Digraph) (P : List Bool) → length P ≡ length g.edges → (k : ℕ) → IsTrue (present P k) → IsTrue (has (filter (present P) (places g)) k)
in_places g P len k h = present_order g P (filter (present P) (places g)) len (IsPermutation-refl (filter (present P) (places g))) k h

pub all_have : (n : ℕ) (ks : List ℕ) → ((k : ℕ) → IsTrue (has ks k) → k < n) → All (λ k. k < n) ks
all_have n ks h = λ i d lt. h (get_or ks i d) (has_get_or ks i d lt)

pub forest_spans : (g : Digraph) (order chosen labels : List ℕ) → IsGrown g order chosen labels → All (λ k. k < length g.edges) chosen → 0 < g.nodes
    → IsTrue (list_all (same_label labels 0) (range_with_len 0 (length labels))) → IsTrue (is_spanning_tree g chosen)
forest_spans g order chosen labels grown fits some all =
    let whole : IsTrue (list_all (joins (edges_at g chosen) 0) (nodes_of g)) = sym (joined_by_labels g (edges_at g chosen) labels grown.len grown.tells) ∙ all in
    let one : component_count (edges_at g chosen) g.nodes ≤ 1 = component_count-one (edges_at g chosen) g.nodes whole in
    let more : 1 ≤ component_count (edges_at g chosen) g.nodes = component_count-some (edges_at g chosen) g.nodes some in
    let size : suc (length chosen) ≡ g.nodes = omega (arith, one, more, grown.count) in
    sym (spanning_is g chosen labels true size fits grown.len grown.tells (sym all))

pub found_tree : (g : Digraph) (P : List Bool) (most : ℤ) (chosen labels : List ℕ) → IsForest g P chosen labels
    → All (λ k. k < length g.edges) chosen → 0 < g.nodes → IsTrue (list_all (same_label labels 0) (range_with_len 0 (length labels)))
    → int_le (pos (weight_of g chosen)) most ≡ true → IsTrue (is_tree g P most chosen)
found_tree g P most chosen labels grown fits some all light =
    and_from (list_all (present P) chosen && is_spanning_tree g chosen) (int_le (pos (weight_of g chosen)) most)
    (and_from (list_all (present P) chosen) (is_spanning_tree g chosen)
    (all_from (present P) chosen (λ k h. (chosen_present g P chosen labels grown k h).0))
    (forest_spans g (filter (present P) (places g)) chosen labels grown fits some all)) light

pub heavier : (a b : ℤ) → int_le a b ≡ false → int_lt b a ≡ true
heavier a b h = grind (arith, ints)

pub found_least : (g : Digraph) (P : List Bool) (most : ℤ) (chosen labels : List ℕ) → length P ≡ length g.edges → IsForest g P chosen labels
    → All (λ k. k < length g.edges) chosen → 0 < g.nodes → IsTrue (list_all (same_label labels 0) (range_with_len 0 (length labels)))
    → int_le (pos (weight_of g chosen)) most ≡ false → IsTrue (is_least g P most chosen)
found_least g P most chosen labels len grown fits some all heavy =
    and_from (is_spanning_tree g chosen && int_lt most (pos (weight_of g chosen))) (list_all (λ k. not (present P k) || is_bridged g chosen (edge_at g k)) (places g))
    (and_from (is_spanning_tree g chosen) (int_lt most (pos (weight_of g chosen))) (forest_spans g (filter (present P) (places g)) chosen labels grown fits some all) (heavier (pos (weight_of g chosen)) most heavy))
    (all_of (λ k. not (present P k) || is_bridged g chosen (edge_at g k)) 0 (length g.edges) (λ k low high. elim (cases_Bool (present P k)) [
      | inl here ↦ or_right (not (present P k)) (is_bridged g chosen (edge_at g k)) (grown.bridged k (in_places g P len k here))
      | inr off ↦ or_left (not (present P k)) (is_bridged g chosen (edge_at g k)) (not_from_false (present P k) off)
    ]))

-- ---- a split

any_first : (p : ℕ → Bool) (n : ℕ) → 0 < n → IsTrue (p 0) → IsTrue (list_any p (range_with_len 0 n))
any_first p zero lt h = absurd (omega arith)
any_first p (suc n) lt h = or_left (p 0) (list_any p (range_with_len (0 + 1) n)) h

all_filtered : (p q : Edge → Bool) (es : List Edge) → IsTrue (list_all q es) → IsTrue (list_all q (filter p es))
all_filtered p q [] h = refl
all_filtered p q (e ∷ es) h =
    let a = and_parts (q e) (list_all q es) h in
    by_test (p e) a.0 (all_filtered p q es a.1)
  where
    by_test : (b : Bool) → IsTrue (q e) → IsTrue (list_all q (filter p es)) → IsTrue (list_all q (cond b (e ∷ filter p es) (filter p es)))
    by_test true t rest = and_from (q e) (list_all q (filter p es)) t rest
    by_test false t rest = rest

no_cross : (a b : Bool) → a ≡ b → not ((a && not b) || (b && not a)) ≡ true
no_cross true true e = refl
no_cross false false e = refl
no_cross true false e = absurd cc
no_cross false true e = absurd cc

not_and : (a b : Bool) → (IsTrue a → not b ≡ true) → not (a && b) ≡ true
not_and true b h = h refl
not_and false b h = refl

set_has : (g : Digraph) (labels set : List ℕ) → set ≡ filter (same_label labels 0) (nodes_of g) → (u : ℕ) → u < g.nodes → has set u ≡ same_label labels 0 u
set_has g labels set is u lt = ap (λ (s : List ℕ). has s u) is ∙ same_truth (has (filter (same_label labels 0) (nodes_of g)) u) (same_label labels 0 u)
    (λ h. (filter_has (same_label labels 0) (nodes_of g) u h).1)
    (λ h. has_filter (same_label labels 0) (nodes_of g) u (has_range 0 g.nodes u (omega arith) (omega arith)) h)

pub set_in_order : (g : Digraph) (labels set : List ℕ) → set ≡ filter (same_label labels 0) (nodes_of g) → set ≡ filter (has set) (nodes_of g)
set_in_order g labels set is = is ∙ filter_same (same_label labels 0) (has set) 0 g.nodes (λ u low high. sym (set_has g labels set is u (omega arith)))

pub found_split : (g : Digraph) (P : List Bool) (chosen labels set : List ℕ) → IsGraph g → length P ≡ length g.edges → IsForest g P chosen labels
    → 0 < g.nodes → list_all (same_label labels 0) (range_with_len 0 (length labels)) ≡ false → set ≡ filter (same_label labels 0) (nodes_of g) → IsTrue (is_split g P set)
found_split g P chosen labels set graph len grown some apart is =
    and_from (list_any (has set) (nodes_of g) && not (list_all (has set) (nodes_of g))) (list_all (λ k. not (present P k && crosses set (edge_at g k))) (places g))
    (and_from (list_any (has set) (nodes_of g)) (not (list_all (has set) (nodes_of g)))
    (any_first (has set) g.nodes some (has_set 0 some ∙ eq-eqb (get_or labels 0 0) (get_or labels 0 0) refl))
    (not_from_false (list_all (has set) (nodes_of g)) (list_all_agree (has set) (same_label labels 0) 0 g.nodes (λ k low high. has_set k (omega arith))
    ∙ (ap (λ (n : ℕ). list_all (same_label labels 0) (range_with_len 0 n)) (sym grown.len) ∙ apart))))
    (all_of (λ k. not (present P k && crosses set (edge_at g k))) 0 (length g.edges) (λ k low high. not_and (present P k) (crosses set (edge_at g k)) (λ here.
    at k (omega arith) (in_places g P len k here))))
  where
    has_set : (u : ℕ) → u < g.nodes → has set u ≡ same_label labels 0 u
    has_set u lt = set_has g labels set is u lt

    at : (k : ℕ) → k < length g.edges → IsTrue (has (filter (present P) (places g)) k) → not (crosses set (edge_at g k)) ≡ true
    at k lt h =
        let ends = graph.ends k no_edge lt in
        let es : List Edge = edges_at g chosen in
        let j : IsTrue (joins (edges_at g chosen) (edge_at g k).from (edge_at g k).to) =
        joins_by (filter (λ t. nat_le t.weight (edge_at g k).weight) (edges_at g chosen)) (edges_at g chosen)
        (all_filtered (λ t. nat_le t.weight (edge_at g k).weight) (has_joined (edges_at g chosen)) (edges_at g chosen) (own_edges (edges_at g chosen)))
        (edge_at g k).from (edge_at g k).to (grown.bridged k h) in
        let lf : (edge_at g k).from < length labels = rw grown.len ends.0 in
        let lt' : (edge_at g k).to < length labels = rw grown.len ends.1 in
        let same : get_or labels (edge_at g k).from 0 ≡ get_or labels (edge_at g k).to 0 =
        eqb-true (get_or labels (edge_at g k).from 0) (get_or labels (edge_at g k).to 0) (grown.tells.exact (edge_at g k).from (edge_at g k).to lf lt' ∙ j) in
        no_cross (has set (edge_at g k).from) (has set (edge_at g k).to)
        (has_set (edge_at g k).from ends.0 ∙ (ap (λ (l : ℕ). get_or labels 0 0 == l) same ∙ sym (has_set (edge_at g k).to ends.1)))

-- ---- through what was lent

pub perm_from : (g : Digraph) (P : List Bool) (found lent order : List ℕ) → lent ≡ found → found ≡ filter (present P) (places g) → IsPermutation lent order → IsPermutation (filter (present P) (places g)) order
perm_from g P found lent order e f h = subst (λ (xs : List ℕ). IsPermutation xs order) (e ∙ f) h

pub fits_perm : (g : Digraph) (P : List Bool) (order lent : List ℕ) → lent ≡ order → IsPermutation (filter (present P) (places g)) order → All (λ k. k < length g.edges) lent
fits_perm g P order lent e perm = subst (λ (xs : List ℕ). All (λ k. k < length g.edges) xs) (sym e) (all_have (length g.edges) order (λ k h. (order_present g P order perm k h).1))

pub fits_present : (g : Digraph) (P : List Bool) (lent found : List ℕ) → lent ≡ found → found ≡ filter (present P) (places g) → All (λ k. k < length g.edges) lent
fits_present g P lent found e f = fits_perm g P (filter (present P) (places g)) lent (e ∙ f) (IsPermutation-refl (filter (present P) (places g)))

-- a forest grown from the present edges in any order
pub forest_from : (g : Digraph) (P : List Bool) (order chosen labels : List ℕ) → IsPermutation (places g) order → IsGrown g (filter (present P) order) chosen labels → IsForest g P chosen labels
forest_from g P order chosen labels perm grown = record {
  len = grown.len;
  tells = grown.tells;
  within = λ k h. same k ∙ grown.within k h;
  bridged = λ k h. grown.bridged k (sym (same k) ∙ h);
  count = grown.count;
}
  where
    moved : (k : ℕ) → has (places g) k ≡ has order k
    moved k = list_any-IsPermutation (λ v. v == k) (places g) order perm

    same : (k : ℕ) → has (filter (present P) (places g)) k ≡ has (filter (present P) order) k
    same k = same_truth (has (filter (present P) (places g)) k) (has (filter (present P) order) k)
        (λ h. let r = filter_has (present P) (places g) k h in has_filter (present P) order k (sym (moved k) ∙ r.0) r.1)
        (λ h. let r = filter_has (present P) order k h in has_filter (present P) (places g) k (moved k ∙ r.0) r.1)

pub fits_chosen : (g : Digraph) (P : List Bool) (chosen labels lent : List ℕ) → IsForest g P chosen labels → lent ≡ chosen → All (λ k. k < length g.edges) lent
fits_chosen g P chosen labels lent grown e =
    subst (λ (xs : List ℕ). All (λ k. k < length g.edges) xs) (sym e) (all_have (length g.edges) chosen (λ k h. (chosen_present g P chosen labels grown k h).1))

pub some_node : (g : Digraph) → IsGraph g → 0 < g.nodes
some_node g graph = let some = graph.some_node in omega arith

pub set_known : (g : Digraph) (labels set : List ℕ) → set ≡ filter (same_label labels 0) (nodes_of g) → All (λ u. u < g.nodes) set
set_known g labels set is = subst (λ (xs : List ℕ). All (λ u. u < g.nodes) xs) (sym is)
    (all_have g.nodes (filter (same_label labels 0) (nodes_of g)) (λ u h. let r = range_has 0 g.nodes u (filter_has (same_label labels 0) (nodes_of g) u h).0 in omega (arith, r.1)))
