-- The edges of a rising order that are no heavier than a weight stand first.
use Rattle.std.proofs.Common.{◌≡◌, ℕ, zero, suc, ◌+◌, ◌<◌, ◌≤◌, Bool, true, false, not, ◌&&◌, ◌||◌, List, [], ◌∷◌, length, filter, get_or, take, refl, sym, ap, subst, ◌∙◌, inl, inr, arith}
use Rattle.std.specs.Prelude.{IsTrue, nat_le, IsPermutation}
use Rattle.std.specs.List.{list_all}
use Rattle.std.specs.List.Sorted.{IsNonDecreasingBy}
use Rattle.std.proofs.lemmas.Bool.{le-leb, lt-leb, cases_Bool, or_left, or_right, or_cases, not_from_false, not-true, both_ways, and_from}
use Rattle.std.proofs.lemmas.List.Sorted.{IsPermutation-map, IsPermutation-sym, Contains-permutation}
use Rattle.mono_graph.specs.declared.edge.Edge.{Edge}
use Rattle.std.proofs.Common.{ℤ, pos, int_le, int_lt}
use Rattle.mono_graph.specs.Digraph.{Digraph, edge_at, present, places, weight_of}
use Rattle.mono_graph.proofs.Joins.{has_joined, joins_by, kept_edges, all_filter, at_contained, all_contained}
use Rattle.mono_graph.proofs.Places.{all_of, all_below}
use Rattle.mono_trees.proofs.Finding.{order_present, present_order, heavier}
use Rattle.mono_graph.specs.Trees.{joins, edges_at, is_bridged, is_spanning_tree, is_least}
use Rattle.mono_graph.proofs.Membership.{same_truth, all_at, all_from}
use Rattle.mono_trees.specs.Tells.{same_label}
use Rattle.mono_trees.specs.Swept.{IsSwept}

-- light first, then heavy: the filter takes the front
front_filter : (g : Digraph) (w : ℕ) (ks : List ℕ) (at : ℕ) → ((i : ℕ) → i < at → (edge_at g (get_or ks i 0)).weight ≤ w) → ((i : ℕ) → at ≤ i → i < length ks → w < (edge_at g (get_or ks i 0)).weight)
    → filter (λ t. nat_le t.weight w) (edges_at g ks) ≡ edges_at g (take at ks)
front_filter g w [] zero light heavy = refl
front_filter g w [] (suc at) light heavy = refl
front_filter g w (k ∷ ks) zero light heavy =
    let off : nat_le (edge_at g k).weight w ≡ false = lt-leb (edge_at g k).weight w (heavy 0 (omega arith) (omega arith)) in
    rw off (front_filter g w ks zero (λ i lt. absurd (omega arith)) (λ i low high. heavy (suc i) (omega arith) (omega arith)))
front_filter g w (k ∷ ks) (suc at) light heavy =
    let on : nat_le (edge_at g k).weight w ≡ true = le-leb (edge_at g k).weight w (light 0 (omega arith)) in
    rw on (ap (λ (es : List Edge). edge_at g k ∷ es) (front_filter g w ks at (λ i lt. light (suc i) (omega arith)) (λ i low high. heavy (suc i) (omega arith) (omega arith))))

-- what the labels tell is whether the tree bridges an edge of the weight
pub swept_bridges : (g : Digraph) (tree labels : List ℕ) (at : ℕ) (e : Edge) → IsNonDecreasingBy (λ k. (edge_at g k).weight) tree → IsSwept g tree labels at e.weight
    → e.from < g.nodes → e.to < g.nodes → same_label labels e.from e.to ≡ is_bridged g tree e
swept_bridges g tree labels at e rising swept from to =
    let heavy : (i : ℕ) → at ≤ i → i < length tree → e.weight < (edge_at g (get_or tree i 0)).weight =
    λ i low high. (let h : e.weight < (edge_at g (get_or tree at 0)).weight = swept.heavy (omega arith) in let up : (edge_at g (get_or tree at 0)).weight ≤ (edge_at g (get_or tree i 0)).weight = rising at i 0 low high in omega (arith, h, up)) in
    let front = front_filter g e.weight tree at swept.light heavy in
    swept.tells.exact e.from e.to (let l = swept.len in omega arith) (let l = swept.len in omega arith) ∙ ap (λ (es : List Edge). joins es e.from e.to) (sym front)

-- the order of the tree's edges is all one
bridged_half : (g : Digraph) (ks js : List ℕ) (e : Edge) → IsPermutation js ks → IsTrue (is_bridged g ks e) → IsTrue (is_bridged g js e)
bridged_half g ks js e perm h =
    let p : Edge → Bool = λ t. nat_le t.weight e.weight in
    let kept : IsTrue (list_all (λ x. not (p x) || has_joined (filter p (edges_at g js)) x) (edges_at g js)) = kept_edges p (edges_at g js) in
    let over : IsPermutation (edges_at g js) (edges_at g ks) = IsPermutation-map (edge_at g) js ks perm in
    let moved : IsTrue (list_all (λ x. not (p x) || has_joined (filter p (edges_at g js)) x) (edges_at g ks)) =
    all_contained (λ x. not (p x) || has_joined (filter p (edges_at g js)) x) (edges_at g ks) (λ x c.
    at_contained (λ y. not (p y) || has_joined (filter p (edges_at g js)) y) (edges_at g js) x kept
    (Contains-permutation (edges_at g ks) (edges_at g js) x (IsPermutation-sym (edges_at g js) (edges_at g ks) over) c)) in
    joins_by (filter p (edges_at g ks)) (filter p (edges_at g js)) (all_filter p (has_joined (filter p (edges_at g js))) (edges_at g ks) moved) e.from e.to h

pub bridged_same : (g : Digraph) (ks js : List ℕ) (e : Edge) → IsPermutation ks js → is_bridged g js e ≡ is_bridged g ks e
bridged_same g ks js e perm = same_truth (is_bridged g js e) (is_bridged g ks e) (bridged_half g js ks e perm) (bridged_half g ks js e (IsPermutation-sym ks js perm))

-- the test of the present places in order is the test of all places
pub all_in_order : (g : Digraph) (P : List Bool) (r q : ℕ → Bool) (order : List ℕ) → length P ≡ length g.edges → IsPermutation (filter (present P) (places g)) order → ((k : ℕ) → r k ≡ q k)
    → list_all r order ≡ list_all (λ k. not (present P k) || q k) (places g)
all_in_order g P r q order len perm same = same_truth (list_all r order) (list_all (λ k. not (present P k) || q k) (places g))
    (λ h. all_of (λ k. not (present P k) || q k) 0 (length g.edges) (λ k low high. elim (cases_Bool (present P k)) [
      | inl here ↦ or_right (not (present P k)) (q k) (sym (same k) ∙ all_at r order k h (present_order g P order len perm k here))
      | inr off ↦ or_left (not (present P k)) (q k) (not_from_false (present P k) off)
    ]))
    (λ h. all_from r order (λ k t.
    let o = order_present g P order perm k t in
    elim (or_cases (not (present P k)) (q k) (all_below (λ j. not (present P j) || q j) 0 (length g.edges) h k (omega arith) (omega (arith, o.1)))) [
      | inl off ↦ absurd (both_ways (present P k) (not-true (present P k) off) o.0)
      | inr on ↦ same k ∙ on
    ]))

pub least_is : (g : Digraph) (P : List Bool) (most : ℤ) (ks tree order : List ℕ) (lent : List ℕ) (lent' : List ℕ) (spans light r : Bool) → length P ≡ length g.edges
    → IsPermutation (filter (present P) (places g)) order → IsPermutation ks tree → lent ≡ tree → lent' ≡ order
    → spans ≡ is_spanning_tree g ks → spans ≡ true → light ≡ int_le (pos (weight_of g ks)) most → light ≡ false
    → r ≡ list_all (λ k. is_bridged g lent (edge_at g k)) lent' → r ≡ is_least g P most ks
least_is g P most ks tree order lent lent' spans light r len perm permt e e' s on l off is =
    let a : r ≡ list_all (λ k. is_bridged g tree (edge_at g k)) order = is ∙ (ap (λ (xs : List ℕ). list_all (λ k. is_bridged g xs (edge_at g k)) lent') e ∙ ap (λ (xs : List ℕ). list_all (λ k. is_bridged g tree (edge_at g k)) xs) e') in
    let b : list_all (λ k. is_bridged g tree (edge_at g k)) order ≡ list_all (λ k. not (present P k) || is_bridged g ks (edge_at g k)) (places g) =
    all_in_order g P (λ k. is_bridged g tree (edge_at g k)) (λ k. is_bridged g ks (edge_at g k)) order len perm (λ k. bridged_same g ks tree (edge_at g k) permt) in
    let d : (is_spanning_tree g ks && int_lt most (pos (weight_of g ks))) ≡ true =
    and_from (is_spanning_tree g ks) (int_lt most (pos (weight_of g ks))) (sym s ∙ on) (heavier (pos (weight_of g ks)) most (sym l ∙ off)) in
    a ∙ (b ∙ sym (ap (λ (t : Bool). t && list_all (λ k. not (present P k) || is_bridged g ks (edge_at g k)) (places g)) d))

pub tested_at : (g : Digraph) (tree edges labels : List ℕ) (i at : ℕ) (edge : Edge) (r b : Bool) → IsNonDecreasingBy (λ k. (edge_at g k).weight) tree
    → edge ≡ edge_at g (get_or edges i 0) → IsSwept g tree labels at edge.weight → edge.from < g.nodes → edge.to < g.nodes
    → r ≡ same_label labels edge.from edge.to → r ≡ b → is_bridged g tree (edge_at g (get_or edges i 0)) ≡ b
tested_at g tree edges labels i at edge r b rising is swept from to says e =
    subst (λ (x : Edge). is_bridged g tree x ≡ b) is (sym (swept_bridges g tree labels at edge rising swept from to) ∙ (sym says ∙ e))

pub stays_light : (g : Digraph) (tree edges labels : List ℕ) (idx at : ℕ) (edge : Edge) → IsNonDecreasingBy (λ k. (edge_at g k).weight) edges → idx < length edges
    → edge ≡ edge_at g (get_or edges idx 0) → IsSwept g tree labels at edge.weight
    → (i j : ℕ) → i < at → idx + 1 ≤ j → j < length edges → (edge_at g (get_or tree i 0)).weight ≤ (edge_at g (get_or edges j 0)).weight
stays_light g tree edges labels idx at edge rising lt is swept i j below low high =
    let a : (edge_at g (get_or tree i 0)).weight ≤ edge.weight = swept.light i below in
    let b : edge.weight ≡ (edge_at g (get_or edges idx 0)).weight = ap (λ (e : Edge). e.weight) is in
    let d : (edge_at g (get_or edges idx 0)).weight ≤ (edge_at g (get_or edges j 0)).weight = rising idx j 0 (omega arith) high in
    omega (arith, a, b, d)
