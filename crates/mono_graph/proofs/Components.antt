-- How many components edges leave, and what one more edge makes of that.
use Rattle.std.proofs.Common.{◌≡◌, ℕ, zero, suc, ◌+◌, ◌<◌, ◌≤◌, Bool, true, false, not, ◌&&◌, ◌==◌, List, [], ◌∷◌, ◌++◌, length, refl, sym, ap, subst, ◌∙◌, inl, inr, arith, ◌⊎◌, append-nil}
use Rattle.std.specs.Prelude.{IsTrue, if◌then◌else◌}
use Rattle.std.specs.List.{list_all, range_with_len}
use Rattle.std.proofs.lemmas.Bool.{and_parts, and_cases, ne_eqb, not-true, both_ways, false_from_ne_true, not_from_false, not-false, cases_order, cases_lt, cases_eq, cases_Bool, true_from_ne_false}
use Rattle.std.proofs.lemmas.List.{length-map}
use Rattle.std.proofs.lemmas.List.Folds.{list_all-map}
use Rattle.mono_graph.specs.declared.edge.Edge.{Edge}
use Rattle.mono_graph.specs.Digraph.{Digraph, edge_at, has, is_distinct}
use Rattle.mono_graph.specs.Trees.{joins, edges_at, count_below, is_first, component_count}
use Rattle.mono_graph.proofs.Places.{all_below, all_of}
use Rattle.mono_graph.proofs.Joins.{ways, old, forth, back, joins-refl, joins-sym, joins-trans, by_old, by_forth, by_back, has_joined, joins_by, own_edges}
use Rattle.mono_graph.proofs.Membership.{all_at, all_from, has_here, has_there, has_cons}

count-le : (p q : ℕ → Bool) (n : ℕ) → ((u : ℕ) → IsTrue (p u) → IsTrue (q u)) → count_below p n ≤ count_below q n
count-le p q zero h = omega arith
count-le p q (suc n) h = one (p n) (q n) (h n) (count-le p q n h)
  where
    one : (b c : Bool) → (IsTrue b → IsTrue c) → count_below p n ≤ count_below q n → count_below p n + (if b then 1 else 0) ≤ count_below q n + (if c then 1 else 0)
    one true true f l = omega (arith, l)
    one true false f l = absurd (let e = f refl in cc)
    one false true f l = omega (arith, l)
    one false false f l = omega (arith, l)

count-zero : (p : ℕ → Bool) (n : ℕ) → ((u : ℕ) → u < n → p u ≡ false) → count_below p n ≡ 0
count-zero p zero h = refl
count-zero p (suc n) h = rw (h n (omega arith)) (omega (arith, count-zero p n (λ u lt. h u (omega arith))))

count-one : (p : ℕ → Bool) (n : ℕ) → ((u v : ℕ) → IsTrue (p u) → IsTrue (p v) → u ≡ v) → count_below p n ≤ 1
count-one p zero h = omega arith
count-one p (suc n) h = one (p n) refl (count-one p n h)
  where
    one : (b : Bool) → p n ≡ b → count_below p n ≤ 1 → count_below p n + (if b then 1 else 0) ≤ 1
    one true e l = let none : count_below p n ≡ 0 = count-zero p n (λ u lt. false_from_ne_true (p u) (λ t. let same : u ≡ n = h u n t e in omega arith)) in omega (arith, none)
    one false e l = omega (arith, l)

count-split : (p q : ℕ → Bool) (n : ℕ) → count_below p n ≤ count_below q n + count_below (λ u. p u && not (q u)) n
count-split p q zero = omega arith
count-split p q (suc n) = one (p n) (q n) (count-split p q n)
  where
    one : (b c : Bool) → count_below p n ≤ count_below q n + count_below (λ u. p u && not (q u)) n
        → count_below p n + (if b then 1 else 0) ≤ (count_below q n + (if c then 1 else 0)) + (count_below (λ u. p u && not (q u)) n + (if (b && not c) then 1 else 0))
    one true true l = omega (arith, l)
    one true false l = omega (arith, l)
    one false true l = omega (arith, l)
    one false false l = omega (arith, l)

first_not : (es : List Edge) (u v : ℕ) → IsTrue (is_first es u) → v < u → joins es v u ≡ false
first_not es u v h lt = not-true (joins es v u) (all_below (λ w. not (joins es w u)) 0 u h v (omega arith) (omega arith))

pub record Fails (p : ℕ → Bool) (a n : ℕ) : Type 0 where
  pub at : ℕ
  pub low : a ≤ at
  pub high : at < a + n
  pub fails : p at ≡ false

some_fails : (p : ℕ → Bool) (a n : ℕ) → list_all p (range_with_len a n) ≡ false → Fails p a n
some_fails p a zero h = absurd cc
some_fails p a (suc n) h =
    elim (and_cases (p a) (list_all p (range_with_len (a + 1) n)) h) [
      | inl x ↦ record { at = a; low = omega arith; high = omega arith; fails = x }
      | inr x ↦ let r = some_fails p (a + 1) n x in record { at = r.at; low = omega (arith, r.low); high = omega (arith, r.high); fails = r.fails }
    ]

-- the more is joined, the fewer components there are
pub component_count-le : (es fs : List Edge) (n : ℕ) → ((u v : ℕ) → IsTrue (joins es u v) → IsTrue (joins fs u v)) → component_count fs n ≤ component_count es n
component_count-le es fs n h = count-le (is_first fs) (is_first es) n (λ u first. all_of (λ v. not (joins es v u)) 0 u (λ v low high.
    not_from_false (joins es v u) (false_from_ne_true (joins es v u) (λ t. both_ways (joins fs v u) (first_not fs u v first (omega arith)) (h v u t)))))

same_first : (es : List Edge) (u v : ℕ) → IsTrue (is_first es u) → IsTrue (is_first es v) → IsTrue (joins es u v) → u ≡ v
same_first es u v fu fv j =
    elim (cases_order u v) [
      | inl e ↦ e
      | inr o ↦ elim o [
        | inl lt ↦ absurd (both_ways (joins es u v) (first_not es v u fv lt) j)
        | inr gt ↦ absurd (both_ways (joins es v u) (first_not es u v fu gt) (joins-sym es u v j))
      ]
    ]

-- The first node of a component that one more edge makes no first node: the edge leads to it from a component with a smaller node.
record Lost (e : Edge) (es : List Edge) (u : ℕ) : Type 0 where
  first : IsTrue (is_first es u)
  smaller : ℕ
  below : smaller < u
  way : (IsTrue (joins es smaller e.from) × IsTrue (joins es e.to u)) ⊎ (IsTrue (joins es smaller e.to) × IsTrue (joins es e.from u))

lost_by : (e : Edge) (es : List Edge) (u : ℕ) → IsTrue (is_first es u && not (is_first (e ∷ es) u)) → Lost e es u
lost_by e es u h =
    let a = and_parts (is_first es u) (not (is_first (e ∷ es) u)) h in
    let r = some_fails (λ v. not (joins (e ∷ es) v u)) 0 u (not-true (is_first (e ∷ es) u) a.1) in
    let j = not-false (joins (e ∷ es) r.at u) r.fails in
    let lt : r.at < u = omega (arith, r.high) in
    record {
      first = a.0;
      smaller = r.at;
      below = lt;
      way = elim (ways e es r.at u j) [ old x ↦ absurd (both_ways (joins es r.at u) (first_not es u r.at a.0 lt) x) | forth x y ↦ inl (x, y) | back x y ↦ inr (x, y) ];
    }

not_below : (es : List Edge) (u x : ℕ) → IsTrue (is_first es u) → IsTrue (joins es x u) → u ≤ x
not_below es u x f j = elim (cases_lt x u) [ inl lt ↦ absurd (both_ways (joins es x u) (first_not es u x f lt) j) | inr le ↦ le ]

one_lost : (e : Edge) (es : List Edge) (u v : ℕ) → Lost e es u → Lost e es v → u ≡ v
one_lost e es u v p q =
    elim p.way [
      | inl a ↦ elim q.way [
        | inl b ↦ same_first es u v p.first q.first (joins-trans es u e.to v (joins-sym es e.to u a.1) b.1)
        | inr b ↦ absurd (let x = not_below es v p.smaller q.first (joins-trans es p.smaller e.from v a.0 b.1) in
            let y = not_below es u q.smaller p.first (joins-trans es q.smaller e.to u b.0 a.1) in omega (arith, p.below, q.below, x, y))
      ]
      | inr a ↦ elim q.way [
        | inl b ↦ absurd (let x = not_below es v p.smaller q.first (joins-trans es p.smaller e.to v a.0 b.1) in
            let y = not_below es u q.smaller p.first (joins-trans es q.smaller e.from u b.0 a.1) in omega (arith, p.below, q.below, x, y))
        | inr b ↦ same_first es u v p.first q.first (joins-trans es u e.from v (joins-sym es e.from u a.1) b.1)
      ]
    ]

-- one more edge joins at most two components
pub component_count-cons : (e : Edge) (es : List Edge) (n : ℕ) → component_count es n ≤ component_count (e ∷ es) n + 1
component_count-cons e es n =
    let a = count-split (is_first es) (is_first (e ∷ es)) n in
    let b = count-one (λ u. is_first es u && not (is_first (e ∷ es) u)) n (λ u v h k. one_lost e es u v (lost_by e es u h) (lost_by e es v k)) in
    omega (arith, a, b)

pub component_count-append : (ds es : List Edge) (n : ℕ) → component_count es n ≤ component_count (ds ++ es) n + length ds
component_count-append [] es n = omega arith
component_count-append (d ∷ ds) es n = omega (arith, component_count-append ds es n, component_count-cons d (ds ++ es) n)

pub component_count-none : (n : ℕ) → n ≤ component_count [] n
component_count-none zero = omega arith
component_count-none (suc n) =
    let first : is_first [] n ≡ true = all_of (λ v. not (joins [] v n)) 0 n (λ v low high. not_from_false (v == n) (ne_eqb v n (λ e. omega arith))) in
    rw first (omega (arith, component_count-none n))

pub component_count-one : (es : List Edge) (n : ℕ) → IsTrue (list_all (joins es 0) (range_with_len 0 n)) → component_count es n ≤ 1
component_count-one es n h = count-le-one n (λ u lt. all_below (joins es 0) 0 n h u (omega arith) (omega arith))
  where
    only_zero : (u : ℕ) → IsTrue (joins es 0 u) → IsTrue (is_first es u) → u ≡ 0
    only_zero u j f = let le = not_below es u 0 f j in omega (arith, le)

    count-le-one : (m : ℕ) → ((u : ℕ) → u < m → IsTrue (joins es 0 u)) → count_below (is_first es) m ≤ 1
    count-le-one zero each = omega arith
    count-le-one (suc m) each = step (is_first es m) refl (count-le-one m (λ u lt. each u (omega arith)))
      where
        step : (b : Bool) → is_first es m ≡ b → count_below (is_first es) m ≤ 1 → count_below (is_first es) m + (if b then 1 else 0) ≤ 1
        step true e l = let z : m ≡ 0 = only_zero m (each m (omega arith)) e in rw z (omega arith)
        step false e l = omega (arith, l)

-- ---- numbers below a bound, and a list that has them

count-has : (s : List ℕ) (n : ℕ) → count_below (has s) n ≤ length s
count-has [] n = let none : count_below (has []) n ≡ 0 = count-zero (has []) n (λ u lt. refl) in omega (arith, none)
count-has (x ∷ xs) n =
    let a = count-split (has (x ∷ xs)) (has xs) n in
    let b = count-one (λ u. has (x ∷ xs) u && not (has xs u)) n (λ u v h k. sym (only u h) ∙ only v k) in
    omega (arith, a, b, count-has xs n)
  where
    only : (u : ℕ) → IsTrue (has (x ∷ xs) u && not (has xs u)) → x ≡ u
    only u h =
        let p = and_parts (has (x ∷ xs) u) (not (has xs u)) h in
        elim (has_cons x u xs p.0) [ inl e ↦ e | inr t ↦ absurd (both_ways (has xs u) (not-true (has xs u) p.1) t) ]

-- a list with all numbers below n is as long as n
pub listed-enough : (s : List ℕ) (n : ℕ) → IsTrue (list_all (has s) (range_with_len 0 n)) → n ≤ length s
listed-enough s n h = omega (arith, count-has s n, all n (λ u lt. all_below (has s) 0 n h u (omega arith) (omega arith)))
  where
    all : (m : ℕ) → ((u : ℕ) → u < m → IsTrue (has s u)) → m ≤ count_below (has s) m
    all zero f = omega arith
    all (suc m) f = let here : has s m ≡ true = f m (omega arith) in rw here (omega (arith, all m (λ u lt. f u (omega arith))))

-- ---- as many edges as join all nodes

pub enough_edges : (es : List Edge) (n : ℕ) → IsTrue (list_all (joins es 0) (range_with_len 0 n)) → n ≤ length es + 1
enough_edges es n whole =
    let a : component_count [] n ≤ component_count (es ++ []) n + length es = component_count-append es [] n in
    let a' : component_count [] n ≤ component_count es n + length es = subst (λ (x : List Edge). component_count [] n ≤ component_count x n + length es) (append-nil es) a in
    let b : component_count es n ≤ 1 = component_count-one es n whole in
    let z : n ≤ component_count [] n = component_count-none n in
    omega (arith, a', b, z)

-- ---- an edge between two components

record First (es : List Edge) (u : ℕ) : Type 0 where
  node : ℕ
  low : node ≤ u
  joined : IsTrue (joins es node u)
  first : IsTrue (is_first es node)

-- the smallest node that is joined with a node
first_of : (es : List Edge) (u m : ℕ) → m ≤ u + 1 → ((w : ℕ) → w < m → joins es w u ≡ false) → (left : ℕ) → m + left ≡ u → First es u
first_of es u m bound none zero e = record {
  node = u;
  low = omega arith;
  joined = joins-refl es u;
  first = all_of (λ v. not (joins es v u)) 0 u (λ v low high. not_from_false (joins es v u) (none v (omega arith)));
}
first_of es u m bound none (suc left) e = by_test (cases_Bool (joins es m u)) (λ off. first_of es u (m + 1) (omega arith) (λ w lt. elim (cases_eq w m) [
  | inl same ↦ subst (λ (k : ℕ). joins es k u ≡ false) (sym same) off
  | inr ne ↦ none w (omega arith)
]) left (omega arith))
  where
    by_test : (joins es m u ≡ true) ⊎ (joins es m u ≡ false) → (joins es m u ≡ false → First es u) → First es u
    by_test (inl j) later = record {
      node = m;
      low = omega arith;
      joined = j;
      first = all_of (λ v. not (joins es v m)) 0 m (λ v low high. not_from_false (joins es v m)
          (false_from_ne_true (joins es v m) (λ t. both_ways (joins es v u) (none v (omega arith)) (joins-trans es v m u t j))));
    }
    by_test (inr off) later = later off

the_first : (es : List Edge) (u : ℕ) → First es u
the_first es u = first_of es u 0 (omega arith) (λ w lt. absurd (omega arith)) u (omega arith)

-- fewer pass the second test, where each that passes it passes the first, and one passes only the first
count-lt : (p q : ℕ → Bool) (n x : ℕ) → ((u : ℕ) → IsTrue (q u) → IsTrue (p u)) → x < n → p x ≡ true → q x ≡ false → count_below q n + 1 ≤ count_below p n
count-lt p q zero x h lt on off = absurd (omega arith)
count-lt p q (suc n) x h lt on off = by_last (cases_eq x n) (λ ne. count-lt p q n x h (omega arith) on off)
  where
    by_last : (x ≡ n) ⊎ (x ≡ n → ⊥) → ((x ≡ n → ⊥) → count_below q n + 1 ≤ count_below p n) → (count_below q n + (if q n then 1 else 0)) + 1 ≤ count_below p n + (if p n then 1 else 0)
    by_last (inl e) later =
        let on' : p n ≡ true = ap p (sym e) ∙ on in
        let off' : q n ≡ false = ap q (sym e) ∙ off in
        rw (on', off') (omega (arith, count-le q p n h))
    by_last (inr ne) later = one (q n) (p n) (h n) (later ne)
      where
        one : (b c : Bool) → (IsTrue b → IsTrue c) → count_below q n + 1 ≤ count_below p n → (count_below q n + (if b then 1 else 0)) + 1 ≤ count_below p n + (if c then 1 else 0)
        one true true f l = omega (arith, l)
        one true false f l = absurd (let e = f refl in cc)
        one false true f l = omega (arith, l)
        one false false f l = omega (arith, l)

not_first : (es : List Edge) (u v : ℕ) → v < u → IsTrue (joins es v u) → is_first es u ≡ false
not_first es u v lt j = false_from_ne_true (is_first es u) (λ f.
    both_ways (joins es v u) (not-true (joins es v u) (all_below (λ w. not (joins es w u)) 0 u f v (omega arith) (omega arith))) j)

stays_first : (e : Edge) (es : List Edge) (u : ℕ) → IsTrue (is_first (e ∷ es) u) → IsTrue (is_first es u)
stays_first e es u f = all_of (λ v. not (joins es v u)) 0 u (λ v low high. not_from_false (joins es v u)
    (false_from_ne_true (joins es v u) (λ t. both_ways (joins (e ∷ es) v u)
    (not-true (joins (e ∷ es) v u) (all_below (λ w. not (joins (e ∷ es) w u)) 0 u f v (omega arith) (omega arith))) (by_old e es v u t))))

pub component_count-apart : (e : Edge) (es : List Edge) (n : ℕ) → e.from < n → e.to < n → joins es e.from e.to ≡ false → component_count (e ∷ es) n + 1 ≡ component_count es n
component_count-apart e es n lf lt apart =
    let a = the_first es e.from in
    let b = the_first es e.to in
    let more : component_count es n ≤ component_count (e ∷ es) n + 1 = component_count-cons e es n in
    let less : component_count (e ∷ es) n + 1 ≤ component_count es n = by_order a b (cases_order a.node b.node) in
    omega (arith, more, less)
  where
    by_order : (a : First es e.from) (b : First es e.to) → (a.node ≡ b.node) ⊎ ((a.node < b.node) ⊎ (b.node < a.node)) → component_count (e ∷ es) n + 1 ≤ component_count es n
    by_order a b (inl same) = absurd (both_ways (joins es e.from e.to) apart
        (joins-trans es e.from a.node e.to (joins-sym es a.node e.from a.joined) (subst (λ (k : ℕ). IsTrue (joins es k e.to)) (sym same) b.joined)))
    by_order a b (inr (inl below)) = count-lt (is_first es) (is_first (e ∷ es)) n b.node (stays_first e es) (let l = b.low in omega arith) b.first
        (not_first (e ∷ es) b.node a.node below (by_forth e es a.node b.node a.joined (joins-sym es b.node e.to b.joined)))
    by_order a b (inr (inr above)) = count-lt (is_first es) (is_first (e ∷ es)) n a.node (stays_first e es) (let l = a.low in omega arith) a.first
        (not_first (e ∷ es) a.node b.node above (by_back e es b.node a.node b.joined (joins-sym es a.node e.from a.joined)))

pub component_count-some : (es : List Edge) (n : ℕ) → 0 < n → 1 ≤ component_count es n
component_count-some es zero h = absurd (omega arith)
component_count-some es (suc zero) h = omega arith
component_count-some es (suc (suc n)) h = omega (arith, component_count-some es (suc n) (omega arith))

-- ---- edges that join all nodes, n - 1 of them, are different

record Shorter (ks : List ℕ) : Type 0 where
  rest : List ℕ
  len : suc (length rest) ≡ length ks
  keeps : (k : ℕ) → IsTrue (has ks k) → IsTrue (has rest k)

shorter : (ks : List ℕ) → is_distinct ks ≡ false → Shorter ks
shorter [] h = absurd cc
shorter (x ∷ xs) h =
    elim (and_cases (not (has xs x)) (is_distinct xs) h) [
      | inl twice ↦ record {
        rest = xs;
        len = refl;
        keeps = λ k there. elim (has_cons x k xs there) [ inl e ↦ subst (λ (j : ℕ). IsTrue (has xs j)) e (not-false (has xs x) twice) | inr later ↦ later ];
      }
      | inr more ↦ let r = shorter xs more in record {
        rest = x ∷ r.rest;
        len = omega (arith, r.len);
        keeps = λ k there. elim (has_cons x k xs there) [
          | inl e ↦ subst (λ (j : ℕ). IsTrue (has (x ∷ r.rest) j)) e (has_here x r.rest)
          | inr later ↦ has_there x k r.rest (r.keeps k later)
        ];
      }
    ]

-- places that are in another list join no more than it
pub joins-places : (g : Digraph) (ks js : List ℕ) → ((k : ℕ) → IsTrue (has ks k) → IsTrue (has js k)) → (u v : ℕ) → IsTrue (joins (edges_at g ks) u v) → IsTrue (joins (edges_at g js) u v)
joins-places g ks js w = joins_by (edges_at g ks) (edges_at g js)
    (list_all-map (has_joined (edges_at g js)) (edge_at g) ks ∙ all_from (λ k. has_joined (edges_at g js) (edge_at g k)) ks
    (λ k h. all_at (λ j. has_joined (edges_at g js) (edge_at g j)) js k
    (sym (list_all-map (has_joined (edges_at g js)) (edge_at g) js) ∙ own_edges (edges_at g js)) (w k h)))

pub distinct_from_joined : (g : Digraph) (ks : List ℕ) (n : ℕ) → suc (length ks) ≡ n → IsTrue (list_all (joins (edges_at g ks) 0) (range_with_len 0 n)) → IsTrue (is_distinct ks)
distinct_from_joined g ks n size whole = true_from_ne_false (is_distinct ks) (λ off.
    let r = shorter ks off in
    let whole' : IsTrue (list_all (joins (edges_at g r.rest) 0) (range_with_len 0 n)) =
    all_of (joins (edges_at g r.rest) 0) 0 n (λ u low high. joins-places g ks r.rest r.keeps 0 u (all_below (joins (edges_at g ks) 0) 0 n whole u low high)) in
    let enough = enough_edges (edges_at g r.rest) n whole' in
    let len = length-map r.rest (edge_at g) in
    omega (arith, enough, len, r.len, size))
