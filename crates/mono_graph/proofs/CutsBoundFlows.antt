-- No flow has a greater value than the present edges that leave a set weigh.
use Rattle.std.proofs.Common.{◌≡◌, ℕ, zero, suc, ◌+◌, ◌<◌, ◌≤◌, Bool, true, false, not, ◌&&◌, ◌||◌, ◌==◌, cond, List, [], ◌∷◌, length, sum_by, filter, refl, sym, ap, subst, ◌∙◌, inl, inr, arith, ℤ, pos, ◌≤ℤ◌, ◌<ℤ◌, ◌≢◌, int_lt, int_le}
use Rattle.std.specs.Prelude.{IsTrue, nat_lt, nat_le, if◌then◌else◌}
use Rattle.std.specs.List.{range_with_len}
use Rattle.std.proofs.lemmas.Bool.{and_parts, cases_order, lt-ltb, le-ltb, eq-eqb, ne_eqb, leb-true, eqb-true, not-true, or_cases}
use Rattle.std.proofs.lemmas.List.Sums.{sum_by-cons}
use Rattle.std.proofs.lemmas.Int.{ints}
use Rattle.mono_graph.specs.Digraph.{Digraph, present, present_by, places, edge_at, no_edge, has, leads_out, weight_of, HasEnds}
use Rattle.mono_graph.specs.Flows.{is_flow, is_within, is_conserved, outflow, inflow, value_of, is_flow_cut}
use Rattle.mono_graph.proofs.Places.{all_below}
use Rattle.mono_graph.proofs.CutsBoundWalks.{lt_from_test, le_from_test}

-- the sum of f over the elements that pass p
abbrev pub total : (ℕ → ℕ) → (ℕ → Bool) → List ℕ → ℕ
total f p [] = 0
total f p (k ∷ ks) = (if p k then f k else 0) + total f p ks

pub total_is : (f : ℕ → ℕ) (p : ℕ → Bool) (ks : List ℕ) → sum_by f (filter p ks) ≡ total f p ks
total_is f p [] = refl
total_is f p (k ∷ ks) = by_test (p k) (total_is f p ks)
  where
    by_test : (b : Bool) → sum_by f (filter p ks) ≡ total f p ks → sum_by f (cond b (k ∷ filter p ks) (filter p ks)) ≡ (if b then f k else 0) + total f p ks
    by_test true rest = rw (sum_by-cons f k (filter p ks)) (omega (arith, rest))
    by_test false rest = omega (arith, rest)

-- ---- over the nodes below n

abbrev pub node_total : (ℕ → Bool) → (ℕ → ℕ) → ℕ → ℕ
node_total s out zero = 0
node_total s out (suc n) = node_total s out n + (if s n then out n else 0)

at_node : (s : ℕ → Bool) (x n w : ℕ)
    → (if (s x && nat_lt x (suc n)) then w else 0) ≡ (if (s x && nat_lt x n) then w else 0) + (if s n then (if x == n then w else 0) else 0)
at_node s x n w =
    elim (cases_order x n) [
      | inl e ↦ subst (λ (y : ℕ). (if (s x && nat_lt x (suc y)) then w else 0) ≡ (if (s x && nat_lt x y) then w else 0) + (if s y then (if x == y then w else 0) else 0)) e
          (rw (lt-ltb x (suc x) (omega arith), le-ltb x x (omega arith), eq-eqb x x refl) (same (s x)))
      | inr o ↦ elim o [
        | inl lt ↦ rw (lt-ltb x (suc n) (omega arith), lt-ltb x n lt, ne_eqb x n (λ e. omega arith)) (below (s x) (s n))
        | inr gt ↦ rw (le-ltb x (suc n) (omega arith), le-ltb x n (omega arith), ne_eqb x n (λ e. omega arith)) (above (s x) (s n))
      ]
    ]
  where
    same : (b : Bool) → (if (b && true) then w else 0) ≡ (if (b && false) then w else 0) + (if b then (if true then w else 0) else 0)
    same true = omega arith
    same false = omega arith

    below : (b c : Bool) → (if (b && true) then w else 0) ≡ (if (b && true) then w else 0) + (if c then (if false then w else 0) else 0)
    below true true = omega arith
    below true false = omega arith
    below false true = omega arith
    below false false = omega arith

    above : (b c : Bool) → (if (b && false) then w else 0) ≡ (if (b && false) then w else 0) + (if c then (if false then w else 0) else 0)
    above true true = omega arith
    above true false = omega arith
    above false true = omega arith
    above false false = omega arith

one_more : (f : ℕ → ℕ) (s : ℕ → Bool) (end : ℕ → ℕ) (n : ℕ) (ks : List ℕ)
    → total f (λ k. s (end k) && nat_lt (end k) (suc n)) ks ≡ total f (λ k. s (end k) && nat_lt (end k) n) ks + (if s n then total f (λ k. end k == n) ks else 0)
one_more f s end n [] = none (s n)
  where
    none : (b : Bool) → 0 ≡ 0 + (if b then 0 else 0)
    none true = refl
    none false = refl
one_more f s end n (k ∷ ks) =
    joined (s n) _ _ _ _ _ _ (at_node s (end k) n (f k)) (one_more f s end n ks)
  where
    joined : (t : Bool) (a a' b b' c c' : ℕ) → a ≡ a' + (if t then c else 0) → b ≡ b' + (if t then c' else 0) → a + b ≡ (a' + b') + (if t then (c + c') else 0)
    joined true a a' b b' c c' p q = omega (arith, p, q)
    joined false a a' b b' c c' p q = omega (arith, p, q)

nothing : (f : ℕ → ℕ) (s : ℕ → Bool) (end : ℕ → ℕ) (js : List ℕ) → total f (λ k. s (end k) && nat_lt (end k) 0) js ≡ 0
nothing f s end [] = refl
nothing f s end (j ∷ js) = rw (le-ltb (end j) 0 (omega arith)) (off (s (end j)) (nothing f s end js))
  where
    off : (b : Bool) → total f (λ k. s (end k) && nat_lt (end k) 0) js ≡ 0 → (if (b && false) then f j else 0) + total f (λ k. s (end k) && nat_lt (end k) 0) js ≡ 0
    off true rest = omega (arith, rest)
    off false rest = omega (arith, rest)

pub swapped : (f : ℕ → ℕ) (s : ℕ → Bool) (end : ℕ → ℕ) (n : ℕ) (ks : List ℕ)
    → node_total s (λ u. total f (λ k. end k == u) ks) n ≡ total f (λ k. s (end k) && nat_lt (end k) n) ks
swapped f s end zero ks = sym (nothing f s end ks)
swapped f s end (suc n) ks = rw (one_more f s end n ks) (ap (λ (m : ℕ). m + (if s n then total f (λ k. end k == n) ks else 0)) (swapped f s end n ks))

-- ---- over the places

pub agree : (f : ℕ → ℕ) (p q : ℕ → Bool) (a n : ℕ) → ((k : ℕ) → a ≤ k → k < a + n → p k ≡ q k) → total f p (range_with_len a n) ≡ total f q (range_with_len a n)
agree f p q a zero h = refl
agree f p q a (suc n) h = rw (h a (omega arith) (omega arith)) (ap (λ (m : ℕ). (if q a then f a else 0) + m) (agree f p q (a + 1) n (λ k low high. h k (omega arith) (omega arith))))

pub split : (f : ℕ → ℕ) (p q : ℕ → Bool) (ks : List ℕ) → total f p ks ≡ total f (λ k. p k && q k) ks + total f (λ k. p k && not (q k)) ks
split f p q [] = refl
split f p q (k ∷ ks) = both (p k) (q k) _ _ _ (split f p q ks)
  where
    both : (b c : Bool) (r r' r'' : ℕ) → r ≡ r' + r'' → (if b then f k else 0) + r ≡ ((if (b && c) then f k else 0) + r') + ((if (b && not c) then f k else 0) + r'')
    both true true r r' r'' e = omega (arith, e)
    both true false r r' r'' e = omega (arith, e)
    both false true r r' r'' e = omega (arith, e)
    both false false r r' r'' e = omega (arith, e)

pub turned : (f : ℕ → ℕ) (p q : ℕ → Bool) (ks : List ℕ) → total f (λ k. p k && q k) ks ≡ total f (λ k. q k && p k) ks
turned f p q [] = refl
turned f p q (k ∷ ks) = both (p k) (q k) _ _ (turned f p q ks)
  where
    both : (b c : Bool) (r r' : ℕ) → r ≡ r' → (if (b && c) then f k else 0) + r ≡ (if (c && b) then f k else 0) + r'
    both true true r r' e = omega (arith, e)
    both true false r r' e = omega (arith, e)
    both false true r r' e = omega (arith, e)
    both false false r r' e = omega (arith, e)

under : (f w : ℕ → ℕ) (here p : ℕ → Bool) (a n : ℕ) → ((k : ℕ) → a ≤ k → k < a + n → f k ≤ (if here k then w k else 0)) → total f p (range_with_len a n) ≤ total w (λ k. here k && p k) (range_with_len a n)
under f w here p a zero h = omega arith
under f w here p a (suc n) h = one (here a) (p a) _ _ (h a (omega arith) (omega arith)) (under f w here p (a + 1) n (λ k low high. h k (omega arith) (omega arith)))
  where
    one : (b c : Bool) (r r' : ℕ) → f a ≤ (if b then w a else 0) → r ≤ r' → (if c then f a else 0) + r ≤ (if (b && c) then w a else 0) + r'
    one true true r r' e l = omega (arith, e, l)
    one true false r r' e l = omega (arith, e, l)
    one false true r r' e l = omega (arith, e, l)
    one false false r r' e l = omega (arith, e, l)

-- ---- conservation

pub kept : (s : ℕ → Bool) (into out : ℕ → ℕ) (src sink n : ℕ) → IsTrue (s src) → s sink ≡ false → ((u : ℕ) → u < n → u ≢ src → u ≢ sink → into u ≡ out u)
    → node_total s out n + (if nat_lt src n then into src else 0) ≡ node_total s into n + (if nat_lt src n then out src else 0)
kept s into out src sink zero inside outside h = rw (le-ltb src 0 (omega arith)) refl
kept s into out src sink (suc n) inside outside h =
    let before = kept s into out src sink n inside outside (λ u lt. h u (omega arith)) in
    elim (cases_order src n) [
      | inl e ↦ let lt : nat_lt src (suc n) ≡ true = lt-ltb src (suc n) (omega arith) in
          let ge : nat_lt src n ≡ false = le-ltb src n (omega arith) in
          let here : s n ≡ true = subst (λ (u : ℕ). s u ≡ true) e inside in
          let before' = rw ge at before in
          rw (lt, here) (subst (λ (u : ℕ). (node_total s out n + out n) + into u ≡ (node_total s into n + into n) + out u) (sym e) (omega (arith, before')))
      | inr o ↦ elim o [
        | inl lt ↦ let yes : nat_lt src (suc n) ≡ true = lt-ltb src (suc n) (omega arith) in
            let was : nat_lt src n ≡ true = lt-ltb src n lt in
            let before' = rw was at before in
            rw yes (elsewhere _ _ (λ e. omega arith) before')
        | inr gt ↦ let no : nat_lt src (suc n) ≡ false = le-ltb src (suc n) (omega arith) in
            let was : nat_lt src n ≡ false = le-ltb src n (omega arith) in
            let before' = rw was at before in
            rw no (elsewhere _ _ (λ e. omega arith) before')
      ]
    ]
  where
    at_flag : (flag : Bool) (a b c d : ℕ) → (flag ≡ true → into n ≡ out n) → a + c ≡ b + d → (a + (if flag then out n else 0)) + c ≡ (b + (if flag then into n else 0)) + d
    at_flag true a b c d same e = let w = same refl in omega (arith, e, w)
    at_flag false a b c d same e = omega (arith, e)

    elsewhere : (c d : ℕ) → (n ≢ src) → node_total s out n + c ≡ node_total s into n + d
        → (node_total s out n + (if s n then out n else 0)) + c ≡ (node_total s into n + (if s n then into n else 0)) + d
    elsewhere c d other e = at_flag (s n) (node_total s out n) (node_total s into n) c d (λ here. h n (omega arith) other (λ is-sink. let off : s n ≡ false = subst (λ (u : ℕ). s u ≡ false) (sym is-sink) outside in cc)) e

-- ---- together

pub ends_at : (g : Digraph) → HasEnds g → (k : ℕ) → k < length g.edges → ((edge_at g k).from < g.nodes) × ((edge_at g k).to < g.nodes)
ends_at g ok k lt = ok k no_edge lt

pub in_nodes : (s : Bool) (x n : ℕ) → x < n → (s && nat_lt x n) ≡ s
in_nodes true x n lt = lt-ltb x n lt
in_nodes false x n lt = refl

pub same_flow : (s t u : ℕ) (a b : ℕ) → IsTrue ((u == s || u == t) || a == b) → u ≢ s → u ≢ t → a ≡ b
same_flow s t u a b h not-s not-t =
    elim (or_cases (u == s || u == t) (a == b) h) [
      | inl e ↦ elim (or_cases (u == s) (u == t) e) [ inl x ↦ absurd (not-s (eqb-true u s x)) | inr x ↦ absurd (not-t (eqb-true u t x)) ]
      | inr e ↦ eqb-true a b e
    ]

pub flag_on : (b : Bool) (w : ℕ) → IsTrue b → (if b then w else 0) ≡ w
flag_on true w e = refl
flag_on false w e = absurd cc

-- where what enters each node but two leaves it again, what leaves a set with the first of them and without the second, less what
-- enters the set, is what leaves the first less what enters it
pub value_across : (g : Digraph) (s t : ℕ) (f : ℕ → ℕ) (set : List ℕ) → HasEnds g → s < g.nodes
    → ((u : ℕ) → u < g.nodes → u ≢ s → u ≢ t → inflow g f u ≡ outflow g f u) → IsTrue (has set s) → has set t ≡ false
    → outflow g f s + total f (λ k. has set (edge_at g k).to && not (has set (edge_at g k).from)) (places g)
    ≡ inflow g f s + total f (λ k. has set (edge_at g k).from && not (has set (edge_at g k).to)) (places g)
value_across g s t f set ok in-range balanced inside outside =
    let n : ℕ = length g.edges in
    let from : ℕ → ℕ = λ k. (edge_at g k).from in
    let to : ℕ → ℕ = λ k. (edge_at g k).to in
    let S : ℕ → Bool = λ u. has set u in
    let out-is : (u : ℕ) → outflow g f u ≡ total f (λ k. from k == u) (places g) = λ u. total_is f (λ k. from k == u) (places g) in
    let in-is : (u : ℕ) → inflow g f u ≡ total f (λ k. to k == u) (places g) = λ u. total_is f (λ k. to k == u) (places g) in
    let conserved : (u : ℕ) → u < g.nodes → u ≢ s → u ≢ t → total f (λ k. to k == u) (places g) ≡ total f (λ k. from k == u) (places g) =
    λ u lt not-s not-t. sym (in-is u) ∙ (balanced u lt not-s not-t ∙ out-is u) in
    let balance = kept S (λ u. total f (λ k. to k == u) (places g)) (λ u. total f (λ k. from k == u) (places g)) s t g.nodes inside outside conserved in
    let balance' = rw (lt-ltb s g.nodes in-range) at balance in
    let outs : node_total S (λ u. total f (λ k. from k == u) (places g)) g.nodes ≡ total f (λ k. S (from k)) (places g) =
    swapped f S from g.nodes (places g) ∙ agree f (λ k. S (from k) && nat_lt (from k) g.nodes) (λ k. S (from k)) 0 n
    (λ k low high. in_nodes (S (from k)) (from k) g.nodes (ends_at g ok k (omega arith)).0) in
    let ins : node_total S (λ u. total f (λ k. to k == u) (places g)) g.nodes ≡ total f (λ k. S (to k)) (places g) =
    swapped f S to g.nodes (places g) ∙ agree f (λ k. S (to k) && nat_lt (to k) g.nodes) (λ k. S (to k)) 0 n
    (λ k low high. in_nodes (S (to k)) (to k) g.nodes (ends_at g ok k (omega arith)).1) in
    let out-split = split f (λ k. S (from k)) (λ k. S (to k)) (places g) in
    let in-split = split f (λ k. S (to k)) (λ k. S (from k)) (places g) in
    let turn = turned f (λ k. S (from k)) (λ k. S (to k)) (places g) in
    rw (out-is s, in-is s) (omega (arith, balance', outs, ins, out-split, in-split, turn))

pub flow_value_bounded : (g : Digraph) (P : List Bool) (s t : ℕ) (f : ℕ → ℕ) (set : List ℕ) → HasEnds g → s < g.nodes → IsTrue (is_flow g P s t f) → IsTrue (has set s) → has set t ≡ false
    → outflow g f s ≤ inflow g f s + weight_of g (present_by (leads_out set) g P)
flow_value_bounded g P s t f set ok in-range flow inside outside =
    let n : ℕ = length g.edges in
    let leaves : ℕ → Bool = λ k. has set (edge_at g k).from && not (has set (edge_at g k).to) in
    let parts = and_parts (is_within g P f) (is_conserved g s t f) flow in
    let across = value_across g s t f set ok in-range
    (λ u lt not-s not-t. same_flow s t u (inflow g f u) (outflow g f u)
    (all_below (λ w. (w == s || w == t) || inflow g f w == outflow g f w) 0 g.nodes parts.1 u (omega arith) (omega arith)) not-s not-t) inside outside in
    let bound : total f leaves (places g) ≤ total (λ k. (edge_at g k).weight) (λ k. present P k && leaves k) (places g) =
    under f (λ k. (edge_at g k).weight) (present P) leaves 0 n
    (λ k low high. leb-true _ _ (all_below (λ j. nat_le (f j) (if present P j then (edge_at g j).weight else 0)) 0 n parts.0 k (omega arith) (omega arith))) in
    let cut-is : weight_of g (present_by (leads_out set) g P) ≡ total (λ k. (edge_at g k).weight) (λ k. present P k && leaves k) (places g) =
    total_is (λ k. (edge_at g k).weight) (λ k. present P k && leads_out set (edge_at g k)) (places g) in
    rw cut-is (omega (arith, across, bound))

-- the value of a flow is at most what leaves a set with the source and without the sink
pub value_of-le : (g : Digraph) (P : List Bool) (s t : ℕ) (f : ℕ → ℕ) (set : List ℕ) → HasEnds g → s < g.nodes → IsTrue (is_flow g P s t f) → IsTrue (has set s) → IsTrue (not (has set t))
    → value_of g s f ≤ℤ pos (weight_of g (present_by (leads_out set) g P))
value_of-le g P s t f set ok in-range flow inside outside =
    let bound = flow_value_bounded g P s t f set ok in-range flow inside (not-true (has set t) outside) in
    omega (arith, ints, bound)

pub flow_cut_excludes : (g : Digraph) (P : List Bool) (s t : ℕ) (least : ℤ) (f : ℕ → ℕ) (set : List ℕ) → HasEnds g → s < g.nodes → IsTrue (is_flow_cut g P s t least set)
    → IsTrue (is_flow g P s t f && int_le least (value_of g s f)) → ⊥
flow_cut_excludes g P s t least f set ok in-range cut flow =
    let c = and_parts (has set s && not (has set t)) (int_lt (pos (weight_of g (present_by (leads_out set) g P))) least) cut in
    let ends = and_parts (has set s) (not (has set t)) c.0 in
    let fl = and_parts (is_flow g P s t f) (int_le least (value_of g s f)) flow in
    let bound = value_of-le g P s t f set ok in-range fl.0 ends.0 ends.1 in
    let below : pos (weight_of g (present_by (leads_out set) g P)) <ℤ least = lt_from_test _ _ c.1 in
    let above : least ≤ℤ value_of g s f = le_from_test _ _ fl.1 in
    omega (arith, ints, bound, below, above)
