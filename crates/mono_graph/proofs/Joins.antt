-- Being joined by edges is an equivalence, and what the edges that pass a test join.
use Rattle.std.proofs.Common.{◌≡◌, Bool, true, false, not, ◌&&◌, ◌||◌, cond, List, [], ◌∷◌, ◌++◌, filter, Contains, ℕ, zero, suc, refl, sym, ap, subst, ◌∙◌, inl, inr, arith}
use Rattle.std.specs.Prelude.{IsTrue}
use Rattle.std.specs.List.{list_all}
use Rattle.std.proofs.lemmas.Bool.{and_parts, and_from, eqb-true, eq-eqb, not-true, or_cases, or_left, or_right, both_ways, not_from_false}
use Rattle.mono_graph.specs.declared.edge.Edge.{Edge}
use Rattle.mono_graph.specs.Trees.{joins}
use Rattle.std.proofs.lemmas.List.Elements.{Contains-append_cases, Contains-append_left, Contains-append_right}
use Rattle.mono_graph.proofs.Membership.{same_truth}
use Rattle.mono_graph.proofs.Parts.{list_all_weaker}

-- ---- an equivalence

pub by_old : (e : Edge) (es : List Edge) (u v : ℕ) → IsTrue (joins es u v) → IsTrue (joins (e ∷ es) u v)
by_old e es u v h = or_left (joins es u v || (joins es u e.from && joins es e.to v)) (joins es u e.to && joins es e.from v) (or_left (joins es u v) (joins es u e.from && joins es e.to v) h)

pub by_forth : (e : Edge) (es : List Edge) (u v : ℕ) → IsTrue (joins es u e.from) → IsTrue (joins es e.to v) → IsTrue (joins (e ∷ es) u v)
by_forth e es u v h k = or_left (joins es u v || (joins es u e.from && joins es e.to v)) (joins es u e.to && joins es e.from v)
    (or_right (joins es u v) (joins es u e.from && joins es e.to v) (and_from (joins es u e.from) (joins es e.to v) h k))

pub by_back : (e : Edge) (es : List Edge) (u v : ℕ) → IsTrue (joins es u e.to) → IsTrue (joins es e.from v) → IsTrue (joins (e ∷ es) u v)
by_back e es u v h k = or_right (joins es u v || (joins es u e.from && joins es e.to v)) (joins es u e.to && joins es e.from v) (and_from (joins es u e.to) (joins es e.from v) h k)

-- over none of the edges, or once over the first in one of the two directions
pub data Ways (e : Edge) (es : List Edge) (u v : ℕ) : Type 0 where
  old : IsTrue (joins es u v) → Ways e es u v
  forth : IsTrue (joins es u e.from) → IsTrue (joins es e.to v) → Ways e es u v
  back : IsTrue (joins es u e.to) → IsTrue (joins es e.from v) → Ways e es u v

pub ways : (e : Edge) (es : List Edge) (u v : ℕ) → IsTrue (joins (e ∷ es) u v) → Ways e es u v
ways e es u v j =
    elim (or_cases (joins es u v || (joins es u e.from && joins es e.to v)) (joins es u e.to && joins es e.from v) j) [
      | inl j' ↦ elim (or_cases (joins es u v) (joins es u e.from && joins es e.to v) j') [
        | inl x ↦ old x
        | inr x ↦ let b = and_parts (joins es u e.from) (joins es e.to v) x in forth b.0 b.1
      ]
      | inr x ↦ let b = and_parts (joins es u e.to) (joins es e.from v) x in back b.0 b.1
    ]

pub joins-refl : (es : List Edge) (u : ℕ) → IsTrue (joins es u u)
joins-refl [] u = eq-eqb u u refl
joins-refl (e ∷ es) u = by_old e es u u (joins-refl es u)

pub joins-sym : (es : List Edge) (u v : ℕ) → IsTrue (joins es u v) → IsTrue (joins es v u)
joins-sym [] u v h = eq-eqb v u (sym (eqb-true u v h))
joins-sym (e ∷ es) u v h =
    elim (ways e es u v h) [
      | old x ↦ by_old e es v u (joins-sym es u v x)
      | forth x y ↦ by_back e es v u (joins-sym es e.to v y) (joins-sym es u e.from x)
      | back x y ↦ by_forth e es v u (joins-sym es e.from v y) (joins-sym es u e.to x)
    ]

pub joins-trans : (es : List Edge) (u v w : ℕ) → IsTrue (joins es u v) → IsTrue (joins es v w) → IsTrue (joins es u w)
joins-trans [] u v w h k = eq-eqb u w (eqb-true u v h ∙ eqb-true v w k)
joins-trans (e ∷ es) u v w h k =
    elim (ways e es u v h) [
      | old x ↦ elim (ways e es v w k) [
        | old y ↦ by_old e es u w (joins-trans es u v w x y)
        | forth y z ↦ by_forth e es u w (joins-trans es u v e.from x y) z
        | back y z ↦ by_back e es u w (joins-trans es u v e.to x y) z
      ]
      | forth x x' ↦ elim (ways e es v w k) [
        | old y ↦ by_forth e es u w x (joins-trans es e.to v w x' y)
        | forth y z ↦ by_forth e es u w x z
        | back y z ↦ by_old e es u w (joins-trans es u e.from w x z)
      ]
      | back x x' ↦ elim (ways e es v w k) [
        | old y ↦ by_back e es u w x (joins-trans es e.from v w x' y)
        | forth y z ↦ by_old e es u w (joins-trans es u e.to w x z)
        | back y z ↦ by_back e es u w x z
      ]
    ]

-- the ends of the edge are joined by the edges
abbrev pub has_joined : List Edge → Edge → Bool
has_joined es e = joins es e.from e.to

-- edges whose ends are all joined by others join no more than these
pub joins_by : (es fs : List Edge) → IsTrue (list_all (has_joined fs) es) → (u v : ℕ) → IsTrue (joins es u v) → IsTrue (joins fs u v)
joins_by [] fs h u v j = subst (λ (w : ℕ). IsTrue (joins fs u w)) (eqb-true u v j) (joins-refl fs u)
joins_by (e ∷ es) fs h u v j =
    let p = and_parts (has_joined fs e) (list_all (has_joined fs) es) h in
    elim (ways e es u v j) [
      | old x ↦ joins_by es fs p.1 u v x
      | forth x y ↦ joins-trans fs u e.from v (joins_by es fs p.1 u e.from x) (joins-trans fs e.from e.to v p.0 (joins_by es fs p.1 e.to v y))
      | back x y ↦ joins-trans fs u e.to v (joins_by es fs p.1 u e.to x) (joins-trans fs e.to e.from v (joins-sym fs e.from e.to p.0) (joins_by es fs p.1 e.from v y))
    ]

-- each edge that passes a test is joined by those that pass it
pub kept_edges : (p : Edge → Bool) (es : List Edge) → IsTrue (list_all (λ e. not (p e) || has_joined (filter p es) e) es)
kept_edges p [] = refl
kept_edges p (t ∷ ts) = by_test (p t) refl (kept_edges p ts)
  where
    by_test : (b : Bool) → p t ≡ b → IsTrue (list_all (λ e. not (p e) || has_joined (filter p ts) e) ts)
        → IsTrue (list_all (λ e. not (p e) || has_joined (cond b (t ∷ filter p ts) (filter p ts)) e) (t ∷ ts))
    by_test true e rest = and_from (not (p t) || has_joined (t ∷ filter p ts) t) (list_all (λ x. not (p x) || has_joined (t ∷ filter p ts) x) ts)
        (or_right (not (p t)) (has_joined (t ∷ filter p ts) t) (by_forth t (filter p ts) t.from t.to (joins-refl (filter p ts) t.from) (joins-refl (filter p ts) t.to)))
        (list_all_weaker (λ x. not (p x) || has_joined (filter p ts) x) (λ x. not (p x) || has_joined (t ∷ filter p ts) x)
        (λ x h. elim (or_cases (not (p x)) (has_joined (filter p ts) x) h) [
          | inl a ↦ or_left (not (p x)) (has_joined (t ∷ filter p ts) x) a
          | inr a ↦ or_right (not (p x)) (has_joined (t ∷ filter p ts) x) (by_old t (filter p ts) x.from x.to a)
        ]) ts rest)
    by_test false e rest = and_from (not (p t) || has_joined (filter p ts) t) (list_all (λ x. not (p x) || has_joined (filter p ts) x) ts)
        (or_left (not (p t)) (has_joined (filter p ts) t) (not_from_false (p t) e)) rest

-- what holds of each element that passes the test holds of all that the filter keeps
pub all_filter : (p r : Edge → Bool) (es : List Edge) → IsTrue (list_all (λ e. not (p e) || r e) es) → IsTrue (list_all r (filter p es))
all_filter p r [] h = refl
all_filter p r (e ∷ es) h =
    let a = and_parts (not (p e) || r e) (list_all (λ x. not (p x) || r x) es) h in
    by_test (p e) refl a.0 (all_filter p r es a.1)
  where
    by_test : (b : Bool) → p e ≡ b → IsTrue (not (p e) || r e) → IsTrue (list_all r (filter p es)) → IsTrue (list_all r (cond b (e ∷ filter p es) (filter p es)))
    by_test true q h rest = elim (or_cases (not (p e)) (r e) h) [ inl n ↦ absurd (both_ways (p e) (not-true (p e) n) q) | inr x ↦ and_from (r e) (list_all r (filter p es)) x rest ]
    by_test false q h rest = rest

pub joins-append_right : (ds es : List Edge) (u v : ℕ) → IsTrue (joins es u v) → IsTrue (joins (ds ++ es) u v)
joins-append_right [] es u v h = h
joins-append_right (d ∷ ds) es u v h = by_old d (ds ++ es) u v (joins-append_right ds es u v h)

own_left : (ds es : List Edge) → IsTrue (list_all (has_joined (ds ++ es)) ds)
own_left [] es = refl
own_left (d ∷ ds) es = and_from (has_joined (d ∷ (ds ++ es)) d) (list_all (has_joined (d ∷ (ds ++ es))) ds)
    (by_forth d (ds ++ es) d.from d.to (joins-refl (ds ++ es) d.from) (joins-refl (ds ++ es) d.to))
    (list_all_weaker (has_joined (ds ++ es)) (has_joined (d ∷ (ds ++ es))) (λ x h. by_old d (ds ++ es) x.from x.to h) ds (own_left ds es))

pub joins-append_left : (ds es : List Edge) (u v : ℕ) → IsTrue (joins ds u v) → IsTrue (joins (ds ++ es) u v)
joins-append_left ds es u v h = joins_by ds (ds ++ es) (own_left ds es) u v h

-- ---- edges that are in a list

pub contains_later : {X : Type 0} (e x : X) (es : List X) → Contains es x → Contains (e ∷ es) x
contains_later e x es (k, lt, at) = (suc k, omega arith, at)

pub contains_first : {X : Type 0} (e : X) (es : List X) → Contains (e ∷ es) e
contains_first e es = (0, omega arith, refl)

pub at_contained : {X : Type 0} (p : X → Bool) (es : List X) (e : X) → IsTrue (list_all p es) → Contains es e → IsTrue (p e)
at_contained p [] e h (k, lt, at) = absurd (omega arith)
at_contained p (x ∷ xs) e h (zero, lt, at) = ap p (sym at) ∙ (and_parts (p x) (list_all p xs) h).0
at_contained p (x ∷ xs) e h (suc k, lt, at) = at_contained p xs e (and_parts (p x) (list_all p xs) h).1 (k, omega arith, at)

pub all_contained : {X : Type 0} (p : X → Bool) (es : List X) → ((x : X) → Contains es x → IsTrue (p x)) → IsTrue (list_all p es)
all_contained p [] h = refl
all_contained p (x ∷ xs) h = and_from (p x) (list_all p xs) (h x (contains_first x xs)) (all_contained p xs (λ y t. h y (contains_later x y xs t)))

-- each edge's ends are joined by the edges that have it
pub own_edges : (es : List Edge) → IsTrue (list_all (has_joined es) es)
own_edges [] = refl
own_edges (e ∷ es) = and_from (has_joined (e ∷ es) e) (list_all (has_joined (e ∷ es)) es)
    (by_forth e es e.from e.to (joins-refl es e.from) (joins-refl es e.to))
    (list_all_weaker (has_joined es) (has_joined (e ∷ es)) (λ x h. by_old e es x.from x.to h) es (own_edges es))

-- more edges join no less
pub joins-within : (es fs : List Edge) → ((x : Edge) → Contains es x → Contains fs x) → (u v : ℕ) → IsTrue (joins es u v) → IsTrue (joins fs u v)
joins-within es fs w = joins_by es fs (all_contained (has_joined fs) es (λ x h. at_contained (has_joined fs) fs x (own_edges fs) (w x h)))

-- the order of the edges is all one
pub joins-push : (es : List Edge) (e : Edge) (u v : ℕ) → joins (es ++ e ∷ []) u v ≡ joins (e ∷ es) u v
joins-push es e u v = same_truth (joins (es ++ e ∷ []) u v) (joins (e ∷ es) u v)
    (joins-within (es ++ e ∷ []) (e ∷ es) (λ x h. elim (Contains-append_cases es (e ∷ []) x h) [
      | inl a ↦ contains_later e x es a
      | inr b ↦ first_of x b
    ]) u v)
    (joins-within (e ∷ es) (es ++ e ∷ []) (λ x h. swapped x h) u v)
  where
    first_of : (x : Edge) → Contains (e ∷ []) x → Contains (e ∷ es) x
    first_of x (zero, lt, at) = (0, omega arith, at)
    first_of x (suc k, lt, at) = absurd (omega arith)

    swapped : (x : Edge) → Contains (e ∷ es) x → Contains (es ++ e ∷ []) x
    swapped x (zero, lt, at) = Contains-append_right es (e ∷ []) x (0, omega arith, at)
    swapped x (suc k, lt, at) = Contains-append_left es (e ∷ []) x (k, omega arith, at)
