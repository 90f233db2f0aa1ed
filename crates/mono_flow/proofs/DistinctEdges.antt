-- Where no node of a set is listed twice, no absent edge that leaves it is.
use Rattle.std.proofs.Common.{◌≡◌, ℕ, zero, suc, ◌+◌, Bool, true, false, cond, not, ◌&&◌, ◌==◌, List, [], ◌∷◌, ◌++◌, length, filter, refl, sym, subst, inl, inr, arith}
use Rattle.std.specs.Prelude.{IsTrue, flat_map}
use Rattle.std.specs.List.{range_with_len}
use Rattle.std.proofs.lemmas.Bool.{and_parts, and_from, both_ways, not-true, not_from_false, false_from_ne_true}
use Rattle.mono_graph.specs.Digraph.{Digraph, crosses, edge_at, has, is_distinct, leaving, present}
use Rattle.mono_graph.proofs.Membership.{filter_has, has_append_cases, has_here, has_there, places_at, range_has}
use Rattle.mono_theory.specs.Resting.{absent_from, absent_out}

pub range_distinct : (p : ℕ → Bool) (a n : ℕ) → IsTrue (is_distinct (filter p (range_with_len a n)))
range_distinct p a zero = refl
range_distinct p a (suc n) = by_test (p a) (range_distinct p (a + 1) n)
  where
    by_test : (b : Bool) → IsTrue (is_distinct (filter p (range_with_len (a + 1) n))) → IsTrue (is_distinct (cond b (a ∷ filter p (range_with_len (a + 1) n)) (filter p (range_with_len (a + 1) n))))
    by_test false rest = rest
    by_test true rest = and_from (not (has (filter p (range_with_len (a + 1) n)) a)) (is_distinct (filter p (range_with_len (a + 1) n)))
        (not_from_false (has (filter p (range_with_len (a + 1) n)) a) (false_from_ne_true (has (filter p (range_with_len (a + 1) n)) a)
        (λ t. let r = range_has (a + 1) n a (filter_has p (range_with_len (a + 1) n) a t).0 in absurd (omega (arith, r.0))))) rest

distinct_filter : (p : ℕ → Bool) (ks : List ℕ) → IsTrue (is_distinct ks) → IsTrue (is_distinct (filter p ks))
distinct_filter p [] d = refl
distinct_filter p (k ∷ ks) d = let parts = and_parts (not (has ks k)) (is_distinct ks) d in by (p k) (not-true (has ks k) parts.0) (distinct_filter p ks parts.1)
  where
    by : (b : Bool) → has ks k ≡ false → IsTrue (is_distinct (filter p ks)) → IsTrue (is_distinct (cond b (k ∷ filter p ks) (filter p ks)))
    by false new rest = rest
    by true new rest = and_from (not (has (filter p ks) k)) (is_distinct (filter p ks))
        (not_from_false (has (filter p ks) k) (false_from_ne_true (has (filter p ks) k) (λ t. both_ways (has ks k) new (filter_has p ks k t).0))) rest

distinct_append : (xs ys : List ℕ) → IsTrue (is_distinct xs) → IsTrue (is_distinct ys) → ((k : ℕ) → IsTrue (has xs k) → IsTrue (has ys k) → ⊥) → IsTrue (is_distinct (xs ++ ys))
distinct_append [] ys dx dy apart = dy
distinct_append (x ∷ xs) ys dx dy apart =
    let parts = and_parts (not (has xs x)) (is_distinct xs) dx in
    and_from (not (has (xs ++ ys) x)) (is_distinct (xs ++ ys))
    (not_from_false (has (xs ++ ys) x) (false_from_ne_true (has (xs ++ ys) x) (λ t. elim (has_append_cases xs ys x t) [
      | inl first ↦ both_ways (has xs x) (not-true (has xs x) parts.0) first
      | inr later ↦ apart x (has_here x xs) later
    ])))
    (distinct_append xs ys parts.1 dy (λ k first later. apart k (has_there x k xs first) later))

-- the edges at a node begin there
begins_at : (g : Digraph) (P : List Bool) (s : List ℕ) (u k : ℕ) → IsTrue (has (absent_from g P s u) k) → (edge_at g k).from ≡ u
begins_at g P s u k h = (places_at (λ e. e.from) g u k (filter_has (λ j. not (present P j) && crosses s (edge_at g j)) (leaving g u) k h).0).1

begins_in : (g : Digraph) (P : List Bool) (s us : List ℕ) (k : ℕ) → IsTrue (has (flat_map (absent_from g P s) us) k) → IsTrue (has us (edge_at g k).from)
begins_in g P s [] k h = absurd cc
begins_in g P s (u ∷ us) k h = elim (has_append_cases (absent_from g P s u) (flat_map (absent_from g P s) us) k h) [
  | inl here ↦ subst (λ (v : ℕ). IsTrue (has (u ∷ us) v)) (sym (begins_at g P s u k here)) (has_here u us)
  | inr later ↦ has_there u (edge_at g k).from us (begins_in g P s us k later)
]

distinct_from : (g : Digraph) (P : List Bool) (s us : List ℕ) → IsTrue (is_distinct us) → IsTrue (is_distinct (flat_map (absent_from g P s) us))
distinct_from g P s [] d = refl
distinct_from g P s (u ∷ us) d =
    let parts = and_parts (not (has us u)) (is_distinct us) d in
    distinct_append (absent_from g P s u) (flat_map (absent_from g P s) us)
    (distinct_filter (λ j. not (present P j) && crosses s (edge_at g j)) (leaving g u) (range_distinct (λ k. (edge_at g k).from == u) 0 (length g.edges)))
    (distinct_from g P s us parts.1)
    (λ k here later. both_ways (has us u) (not-true (has us u) parts.0) (subst (λ (v : ℕ). IsTrue (has us v)) (begins_at g P s u k here) (begins_in g P s us k later)))

pub absent_distinct : (g : Digraph) (P : List Bool) (s : List ℕ) → IsTrue (is_distinct s) → IsTrue (is_distinct (absent_out g P s))
absent_distinct g P s d = distinct_from g P s s d
