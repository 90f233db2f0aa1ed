-- The order after an edge came.
use Rattle.std.proofs.Common.{◌≡◌, ℕ, ◌+◌, ◌-◌, ◌<◌, ◌≤◌, Bool, false, ◌&&◌, ◌||◌, ◌⊎◌, List, [], ◌∷◌, ◌++◌, length, take, drop, filter, not, get_or, refl, sym, ap, subst, ◌∙◌, inl, inr, arith, zero-add}
use Rattle.std.specs.Prelude.{IsTrue, All, ◌==◌}
use Rattle.std.specs.List.{list_all, range_with_len}
use Rattle.std.proofs.lemmas.Bool.{and_from, and_parts, or_cases, eqb-true, both_ways, ne_eqb}
use Rattle.std.proofs.lemmas.List.Elements.{All-append, All-filter, All-take, All-drop, All-from_get_or}
use Rattle.std.proofs.lemmas.List.FromFn.{length-range_with_len, get_or-range_with_len}
use Rattle.mono_base.specs.declared.limits.TheConstants.{MAX_NODES}
use Rattle.mono_graph.specs.Digraph.{Digraph, HasEnds, no_edge, present, edge_at, has, is_distinct, nodes_of}
use Rattle.mono_graph.proofs.Places.{all_of}
use Rattle.mono_graph.proofs.Membership.{has_range}
use Rattle.mono_graph.specs.Cycles.{rank_in, all_rise, is_order}
use Rattle.mono_cycles.specs.Arranged.{AreRanks, arranged, parted, is_marked}
use Rattle.mono_cycles.specs.Behind.{IsClosed}
use Rattle.mono_cycles.specs.Kept.{IsGrownBy, IsRanked}
use Rattle.mono_graph.proofs.RisingRanks.{climbs, all_climb}
use Rattle.mono_cycles.proofs.Ranked.{rank_at}
use Rattle.mono_cycles.proofs.Arranged.{before, before_ranks, ranks_before, before_left, before_right, arranged_before, arranged_has, parted_across, window_split, window_index, window_has, distinct_ranked}

-- the rank that the table gives is the place in the list
pub table_rank : (ranks order : List ℕ) (u : ℕ) → AreRanks ranks order → IsTrue (has order u) → get_or ranks u 0 ≡ rank_in order u
table_rank ranks order u r h =
    let at = rank_at order u h in
    ap (λ (v : ℕ). get_or ranks v 0) (sym at.1) ∙ r.each (rank_in order u) at.0

-- the edges of the part that has grown
pub grown_cases : (P Q : List Bool) (place k : ℕ) → IsGrownBy P Q place → IsTrue (present Q k) → IsTrue (present P k) ⊎ (k ≡ place)
grown_cases P Q place k grown here = elim (or_cases (present P k) (k == place) (sym (grown.each k) ∙ here)) [ inl old ↦ inl old | inr new ↦ inr (eqb-true k place new) ]

-- where the edge leads to a greater rank, the order stays one
pub order_stays : (g : Digraph) (P Q : List Bool) (order ranks : List ℕ) (place x y : ℕ) → HasEnds g → IsTrue (is_order g P order) → IsGrownBy P Q place → AreRanks ranks order → ((u : ℕ) → u < g.nodes → IsTrue (has order u))
    → (edge_at g place).from ≡ x → (edge_at g place).to ≡ y → x < g.nodes → y < g.nodes → get_or ranks x 0 < get_or ranks y 0 → IsTrue (is_order g Q order)
order_stays g P Q order ranks place x y ends h grown r every from to lx ly up =
    let a = and_parts (is_distinct order && list_all (has order) (nodes_of g)) (all_rise g P (rank_in order)) h in
    let old = climbs g P (rank_in order) a.1 in
    let new : rank_in order x < rank_in order y = subst (λ (n : ℕ). n < rank_in order y) (table_rank ranks order x r (every x lx)) (subst (λ (n : ℕ). get_or ranks x 0 < n) (table_rank ranks order y r (every y ly)) up) in
    and_from (is_distinct order && list_all (has order) (nodes_of g)) (all_rise g Q (rank_in order)) a.0
    (all_climb g Q (rank_in order) (record {
      step = λ k lt here. elim (grown_cases P Q place k grown here) [
        | inl was ↦ old.step k lt was
        | inr e ↦
            subst (λ (j : ℕ). rank_in order (edge_at g j).from < rank_in order (edge_at g j).to) (sym e)
            (subst (λ (n : ℕ). rank_in order n < rank_in order (edge_at g place).to) (sym from) (subst (λ (n : ℕ). rank_in order x < rank_in order n) (sym to) new))
      ];
    }))

-- what is known when the search back from the edge's beginning x is done, and its end y was not found
pub record IsMended (g : Digraph) (Q : List Bool) (order ranks nodes : List ℕ) (marks : List Bool) (place x y low high : ℕ) : Type 0 where
  pub ends : HasEnds g
  pub ranks_are : AreRanks ranks order
  pub every : (u : ℕ) → u < g.nodes → IsTrue (has order u)
  pub len : length order ≡ g.nodes
  pub from : (edge_at g place).from ≡ x
  pub to : (edge_at g place).to ≡ y
  pub x_known : x < g.nodes
  pub y_known : y < g.nodes
  pub low_is : get_or ranks y 0 ≡ low
  pub high_is : get_or ranks x 0 ≡ high
  pub down : low ≤ high
  pub marked : (u : ℕ) → is_marked marks u ≡ has nodes u
  pub closed : IsClosed g Q ranks low nodes
  pub x_found : IsTrue (has nodes x)
  pub y_not : has nodes y ≡ false

pub order_mended : (g : Digraph) (P Q : List Bool) (order ranks nodes : List ℕ) (marks : List Bool) (place x y low high : ℕ) (order' ranks' : List ℕ) → IsMended g Q order ranks nodes marks place x y low high
    → IsTrue (is_order g P order) → IsGrownBy P Q place → order' ≡ arranged (is_marked marks) order low high → AreRanks ranks' order' → IsTrue (is_order g Q order')
order_mended g P Q order ranks nodes marks place x y low high order' ranks' m h grown is r' =
    and_from (is_distinct order' && list_all (has order') (nodes_of g)) (all_rise g Q (rank_in order'))
    (and_from (is_distinct order') (list_all (has order') (nodes_of g)) once (all_of (has order') 0 g.nodes (λ u l lt. every' u (omega arith))))
    (all_climb g Q (rank_in order') (record { step = λ k lt here. before_ranks order' (edge_at g k).from (edge_at g k).to once (rise k lt here) }))
  where
    p : ℕ → Bool
    p = is_marked marks

    n : ℕ
    n = high + 1 - low

    a : List ℕ
    a = take low order

    w : List ℕ
    w = take n (drop low order)

    b : List ℕ
    b = drop (low + n) order

    high-at : get_or order high 0 ≡ x
    high-at =
        let at = rank_at order x (m.every x m.x_known) in
        let e : high ≡ rank_in order x = sym m.high_is ∙ table_rank ranks order x m.ranks_are (m.every x m.x_known) in
        ap (λ (i : ℕ). get_or order i 0) e ∙ at.1

    low-at : get_or order low 0 ≡ y
    low-at =
        let at = rank_at order y (m.every y m.y_known) in
        let e : low ≡ rank_in order y = sym m.low_is ∙ table_rank ranks order y m.ranks_are (m.every y m.y_known) in
        ap (λ (i : ℕ). get_or order i 0) e ∙ at.1

    high-known : high < length order
    high-known =
        let at = rank_at order x (m.every x m.x_known) in
        let e : high ≡ rank_in order x = sym m.high_is ∙ table_rank ranks order x m.ranks_are (m.every x m.x_known) in
        let lt = at.0 in
        omega (arith, e, lt)

    fits : low + n ≤ length order
    fits = let d = m.down in let k = high-known in omega (arith, d, k)

    split : order ≡ a ++ (w ++ b)
    split = window_split order low n

    arranged-is : order' ≡ a ++ (parted p w ++ b)
    arranged-is = is ∙ ap (λ (i : ℕ). a ++ (parted p w ++ drop i order)) (let d = m.down in let e : high + 1 ≡ low + n = omega (arith, d) in e)

    once : IsTrue (is_distinct order')
    once = distinct_ranked ranks' order' r'

    every' : (u : ℕ) → u < g.nodes → IsTrue (has order' u)
    every' u lt = subst (λ (ks : List ℕ). IsTrue (has ks u)) (sym arranged-is) (arranged_has p a w b u (subst (λ (ks : List ℕ). IsTrue (has ks u)) split (m.every u lt)))

    -- a node of the window has at least the lower rank
    not-below : (u : ℕ) → IsTrue (has w u) → get_or ranks u 0 < low → ⊥
    not-below u in-w lt =
        let i = window_index order low n u fits in-w in
        let e : get_or ranks u 0 ≡ low + i.0 = ap (λ (v : ℕ). get_or ranks v 0) (sym i.2) ∙ m.ranks_are.each (low + i.0) (let l = i.1 in let f = fits in omega (arith, l, f)) in
        omega (arith, e, lt)

    old : (k : ℕ) → k < length g.edges → IsTrue (present P k) → IsTrue (present Q k) → IsTrue (before order' (edge_at g k).from (edge_at g k).to)
    old k lt here now =
        let parts = and_parts (is_distinct order && list_all (has order) (nodes_of g)) (all_rise g P (rank_in order)) h in
        let up = (climbs g P (rank_in order) parts.1).step k lt here in
        let was : IsTrue (before order (edge_at g k).from (edge_at g k).to) = ranks_before order (edge_at g k).from (edge_at g k).to (m.every (edge_at g k).to (m.ends k no_edge lt).1) up in
        subst (λ (ks : List ℕ). IsTrue (before ks (edge_at g k).from (edge_at g k).to)) (sym arranged-is)
        (arranged_before p a w b (edge_at g k).from (edge_at g k).to (subst (λ (ks : List ℕ). IsTrue (before ks (edge_at g k).from (edge_at g k).to)) split was)
        (λ from-in to-in marked-to. elim (m.closed k lt (sym (m.marked (edge_at g k).to) ∙ marked-to) now) [
          | inl found ↦ m.marked (edge_at g k).from ∙ found
          | inr below ↦ absurd (not-below (edge_at g k).from from-in below)
        ]))

    x-in : IsTrue (has w x)
    x-in =
        let d = m.down in
        let e : low + (high - low) ≡ high = omega (arith, d) in
        subst (λ (v : ℕ). IsTrue (has w v)) (ap (λ (i : ℕ). get_or order i 0) e ∙ high-at) (window_has order low n (high - low) fits (omega (arith, d)))

    y-in : IsTrue (has w y)
    y-in =
        let d = m.down in
        let e : low + 0 ≡ low = omega arith in
        subst (λ (v : ℕ). IsTrue (has w v)) (ap (λ (i : ℕ). get_or order i 0) e ∙ low-at) (window_has order low n 0 fits (omega (arith, d)))

    new : IsTrue (before order' x y)
    new = subst (λ (ks : List ℕ). IsTrue (before ks x y)) (sym arranged-is)
        (before_right a (parted p w ++ b) x y (before_left (parted p w) b x y (parted_across p w x y x-in y-in (m.marked x ∙ m.x_found) (m.marked y ∙ m.y_not))))

    rise : (k : ℕ) → k < length g.edges → IsTrue (present Q k) → IsTrue (before order' (edge_at g k).from (edge_at g k).to)
    rise k lt here = elim (grown_cases P Q place k grown here) [
      | inl was ↦ old k lt was here
      | inr e ↦ subst (λ (j : ℕ). IsTrue (before order' (edge_at g j).from (edge_at g j).to)) (sym e)
          (subst (λ (v : ℕ). IsTrue (before order' v (edge_at g place).to)) (sym m.from) (subst (λ (v : ℕ). IsTrue (before order' x v)) (sym m.to) new))
    ]

-- ---- what is kept

pub one_not : (x y : ℕ) → (x ≡ y → ⊥) → has (x ∷ []) y ≡ false
one_not x y ne = ap (λ (b : Bool). b || false) (ne_eqb x y ne)

pub rank_known : (g : Digraph) (order ranks : List ℕ) (x high : ℕ) → AreRanks ranks order → ((u : ℕ) → u < g.nodes → IsTrue (has order u)) → x < g.nodes → get_or ranks x 0 ≡ high → high < length order
rank_known g order ranks x high r every lt is =
    let e = table_rank ranks order x r (every x lt) in
    let low = (rank_at order x (every x lt)).0 in
    omega (arith, e, low, is)

arranged_all : (p : ℕ → Bool) (P : ℕ → Type 0) (xs : List ℕ) (low high : ℕ) → All P xs → All P (arranged p xs low high)
arranged_all p P xs low high all =
    let w : List ℕ = take (high + 1 - low) (drop low xs) in
    let inner : All P w = All-take P (high + 1 - low) (drop low xs) (All-drop P low xs all) in
    All-append P (take low xs) (parted p w ++ drop (high + 1) xs) (All-take P low xs all)
    (All-append P (parted p w) (drop (high + 1) xs) (All-append P (filter p w) (filter (λ u. not (p u)) w) (All-filter p P w inner) (All-filter (λ u. not (p u)) P w inner)) (All-drop P (high + 1) xs all))

arranged_every : (p : ℕ → Bool) (xs : List ℕ) (low high u : ℕ) → low ≤ high → IsTrue (has xs u) → IsTrue (has (arranged p xs low high) u)
arranged_every p xs low high u le h =
    let n : ℕ = high + 1 - low in
    let e : low + n ≡ high + 1 = omega arith in
    subst (λ (i : ℕ). IsTrue (has (take low xs ++ (parted p (take n (drop low xs)) ++ drop i xs)) u)) e
    (arranged_has p (take low xs) (take n (drop low xs)) (drop (low + n) xs) u (subst (λ (ks : List ℕ). IsTrue (has ks u)) (window_split xs low n) h))

pub ranked_arranged : (p : ℕ → Bool) (order ranks order' ranks' : List ℕ) (low high : ℕ) → IsRanked order ranks → low ≤ high → order' ≡ arranged p order low high → AreRanks ranks' order'
    → length order' ≡ length order → length ranks' ≡ length ranks → IsRanked order' ranks'
ranked_arranged p order ranks order' ranks' low high k le is r len rlen = record {
  few = let few = k.few in omega arith;
  ranks_len = rlen ∙ (k.ranks_len ∙ sym len);
  known = subst (λ (n : ℕ). All (λ u. u < n) order') (sym len) (subst (λ (ks : List ℕ). All (λ u. u < length order) ks) (sym is) (arranged_all p (λ u. u < length order) order low high k.known));
  every = λ u lt. subst (λ (ks : List ℕ). IsTrue (has ks u)) (sym is) (arranged_every p order low high u le (k.every u (omega arith)));
  ranks_are = r;
}

pub ranked_at : (o o' r r' : List ℕ) → o' ≡ o → r' ≡ r → IsRanked o r → IsRanked o' r'
ranked_at o o' r r' eo er k = subst (λ (x : List ℕ). IsRanked x r') (sym eo) (subst (λ (x : List ℕ). IsRanked o x) (sym er) k)

-- ---- the first order

number_at : (n i : ℕ) → i < n → get_or (range_with_len 0 n) i 0 ≡ i
number_at n i lt = get_or-range_with_len 0 n i 0 (omega (arith, length-range_with_len 0 n)) ∙ zero-add i

numbers_ranked : (n : ℕ) → AreRanks (range_with_len 0 n) (range_with_len 0 n)
numbers_ranked n = record {
  each = λ i lt.
      let low : i < n = omega (arith, length-range_with_len 0 n) in
      subst (λ (v : ℕ). get_or (range_with_len 0 n) v 0 ≡ i) (sym (number_at n i low)) (number_at n i low);
}

pub ranked_first : (n : ℕ) → n ≤ MAX_NODES → IsRanked (range_with_len 0 n) (range_with_len 0 n)
ranked_first n few =
    let len : length (range_with_len 0 n) ≡ n = length-range_with_len 0 n in
    record {
      few = omega arith;
      ranks_len = refl;
      known = All-from_get_or (λ u. u < length (range_with_len 0 n)) (range_with_len 0 n) 0 (λ i lt. subst (λ (v : ℕ). v < length (range_with_len 0 n)) (sym (number_at n i (omega arith))) lt);
      every = λ u lt. has_range 0 n u (omega arith) (omega arith);
      ranks_are = numbers_ranked n;
    }

-- where no edge is present, any list of all nodes, each once, is an order
pub order_first : (g : Digraph) (P : List Bool) (n : ℕ) → g.nodes ≡ n → ((k : ℕ) → present P k ≡ false) → IsTrue (is_order g P (range_with_len 0 n))
order_first g P n is none =
    and_from (is_distinct (range_with_len 0 n) && list_all (has (range_with_len 0 n)) (nodes_of g)) (all_rise g P (rank_in (range_with_len 0 n)))
    (and_from (is_distinct (range_with_len 0 n)) (list_all (has (range_with_len 0 n)) (nodes_of g)) (distinct_ranked (range_with_len 0 n) (range_with_len 0 n) (numbers_ranked n))
    (all_of (has (range_with_len 0 n)) 0 g.nodes (λ u l lt. has_range 0 n u (omega arith) (omega arith))))
    (all_climb g P (rank_in (range_with_len 0 n)) (record { step = λ k lt here. absurd (both_ways (present P k) (none k) here) }))
