-- Which numbers stand before which others in a list, also after a part of it was put in another order.
use Rattle.std.proofs.Common.{◌≡◌, ℕ, suc, ◌+◌, ◌-◌, ◌<◌, ◌≤◌, Bool, true, false, not, ◌&&◌, ◌||◌, cond, ◌⊎◌, List, [], ◌∷◌, ◌++◌, length, take, drop, filter, get_or, set, refl, sym, ap, subst, ◌∙◌, inl, inr, arith, length-append, append_assoc}
use Rattle.std.specs.Prelude.{IsTrue, All, ◌==◌}
use Rattle.std.specs.Bool.{beq}
use Rattle.std.proofs.lemmas.Bool.{and_from, and_parts, or_cases, or_left, or_right, cases_eq, cases_Bool, cases_lt, eq-eqb, eqb-true, both_ways, not-true, not_from_false, false_from_ne_true}
use Rattle.std.proofs.lemmas.List.{get_or_append_left, get_or-append_right, take-append-drop, get_or-take, get_or-drop, length-take-le, length-drop, drop-drop, take_more, drop_more, set_at, get_or-set_same, get_or-set_other}
use Rattle.std.proofs.lemmas.List.Elements.{filter-append, All-append, All-filter, All-take, All-drop}
use Rattle.std.proofs.lemmas.List.Filters.{length-filter_both, length-filter_more}
use Rattle.mono_graph.specs.Digraph.{has, is_distinct}
use Rattle.mono_graph.proofs.Membership.{has_cons, has_there, has_append_cases, has_append_left, has_append_right, has_filter, filter_has, has_get_or}
use Rattle.mono_graph.proofs.Prefixes.{distinct_take}
use Rattle.mono_graph.specs.Cycles.{rank_in}
use Rattle.mono_cycles.specs.Arranged.{AreRanks, parted, arranged, is_marked_as}
use Rattle.mono_cycles.proofs.Lists.{index_of, last_gone, distinct_append}
use Rattle.mono_cycles.proofs.Ranked.{rank_here, rank_there}

-- the number u stands somewhere before v
abbrev pub before : List ℕ → ℕ → ℕ → Bool
before [] u v = false
before (x ∷ xs) u v = (x == u && has xs v) || before xs u v

pub before_has : (xs : List ℕ) (u v : ℕ) → IsTrue (before xs u v) → IsTrue (has xs u) × IsTrue (has xs v)
before_has [] u v h = absurd cc
before_has (x ∷ xs) u v h = elim (or_cases (x == u && has xs v) (before xs u v) h) [
  | inl a ↦ let p = and_parts (x == u) (has xs v) a in (or_left (x == u) (has xs u) p.0, has_there x v xs p.1)
  | inr b ↦ let r = before_has xs u v b in (has_there x u xs r.0, has_there x v xs r.1)
]

pub before_ranks : (xs : List ℕ) (u v : ℕ) → IsTrue (is_distinct xs) → IsTrue (before xs u v) → rank_in xs u < rank_in xs v
before_ranks [] u v d h = absurd cc
before_ranks (x ∷ xs) u v d h =
    let parts = and_parts (not (has xs x)) (is_distinct xs) d in
    let off = not-true (has xs x) parts.0 in
    elim (or_cases (x == u && has xs v) (before xs u v) h) [
      | inl a ↦
          let p = and_parts (x == u) (has xs v) a in
          let zero-is = rank_here x u xs (eqb-true x u p.0) in
          let some = rank_there x v xs (λ e. both_ways (has xs x) off (subst (λ (w : ℕ). IsTrue (has xs w)) (sym e) p.1)) in
          omega (arith, zero-is, some)
      | inr b ↦
          let r = before_has xs u v b in
          let at-u = rank_there x u xs (λ e. both_ways (has xs x) off (subst (λ (w : ℕ). IsTrue (has xs w)) (sym e) r.0)) in
          let at-v = rank_there x v xs (λ e. both_ways (has xs x) off (subst (λ (w : ℕ). IsTrue (has xs w)) (sym e) r.1)) in
          let rest = before_ranks xs u v parts.1 b in
          omega (arith, at-u, at-v, rest)
    ]

pub ranks_before : (xs : List ℕ) (u v : ℕ) → IsTrue (has xs v) → rank_in xs u < rank_in xs v → IsTrue (before xs u v)
ranks_before [] u v h lt = absurd cc
ranks_before (x ∷ xs) u v h lt = elim (cases_eq x v) [
  | inl e ↦ absurd (let z = rank_here x v xs e in omega (arith, z))
  | inr ne ↦
      let there : IsTrue (has xs v) = elim (has_cons x v xs h) [ inl e ↦ absurd (ne e) | inr t ↦ t ] in
      elim (cases_eq x u) [
        | inl e ↦ or_left (x == u && has xs v) (before xs u v) (and_from (x == u) (has xs v) (eq-eqb x u e) there)
        | inr other ↦
            let at-u = rank_there x u xs other in
            let at-v = rank_there x v xs ne in
            or_right (x == u && has xs v) (before xs u v) (ranks_before xs u v there (omega (arith, at-u, at-v)))
      ]
]

pub before_left : (xs ys : List ℕ) (u v : ℕ) → IsTrue (before xs u v) → IsTrue (before (xs ++ ys) u v)
before_left [] ys u v h = absurd cc
before_left (x ∷ xs) ys u v h = elim (or_cases (x == u && has xs v) (before xs u v) h) [
  | inl a ↦
      let p = and_parts (x == u) (has xs v) a in
      or_left (x == u && has (xs ++ ys) v) (before (xs ++ ys) u v) (and_from (x == u) (has (xs ++ ys) v) p.0 (has_append_left xs ys v p.1))
  | inr b ↦ or_right (x == u && has (xs ++ ys) v) (before (xs ++ ys) u v) (before_left xs ys u v b)
]

pub before_right : (xs ys : List ℕ) (u v : ℕ) → IsTrue (before ys u v) → IsTrue (before (xs ++ ys) u v)
before_right [] ys u v h = h
before_right (x ∷ xs) ys u v h = or_right (x == u && has (xs ++ ys) v) (before (xs ++ ys) u v) (before_right xs ys u v h)

pub before_across : (xs ys : List ℕ) (u v : ℕ) → IsTrue (has xs u) → IsTrue (has ys v) → IsTrue (before (xs ++ ys) u v)
before_across [] ys u v h k = absurd cc
before_across (x ∷ xs) ys u v h k = elim (has_cons x u xs h) [
  | inl e ↦ or_left (x == u && has (xs ++ ys) v) (before (xs ++ ys) u v) (and_from (x == u) (has (xs ++ ys) v) (eq-eqb x u e) (has_append_right xs ys v k))
  | inr t ↦ or_right (x == u && has (xs ++ ys) v) (before (xs ++ ys) u v) (before_across xs ys u v t k)
]

pub before_cases : (xs ys : List ℕ) (u v : ℕ) → IsTrue (before (xs ++ ys) u v) → IsTrue (before xs u v) ⊎ ((IsTrue (has xs u) × IsTrue (has ys v)) ⊎ IsTrue (before ys u v))
before_cases [] ys u v h = inr (inr h)
before_cases (x ∷ xs) ys u v h = elim (or_cases (x == u && has (xs ++ ys) v) (before (xs ++ ys) u v) h) [
  | inl a ↦
      let p = and_parts (x == u) (has (xs ++ ys) v) a in
      elim (has_append_cases xs ys v p.1) [
        | inl there ↦ inl (or_left (x == u && has xs v) (before xs u v) (and_from (x == u) (has xs v) p.0 there))
        | inr later ↦ inr (inl (or_left (x == u) (has xs u) p.0, later))
      ]
  | inr b ↦ elim (before_cases xs ys u v b) [
    | inl one ↦ inl (or_right (x == u && has xs v) (before xs u v) one)
    | inr two ↦ elim two [ inl across ↦ inr (inl (has_there x u xs across.0, across.1)) | inr right ↦ inr (inr right) ]
  ]
]

pub before_filter : (p : ℕ → Bool) (xs : List ℕ) (u v : ℕ) → IsTrue (p u) → IsTrue (p v) → IsTrue (before xs u v) → IsTrue (before (filter p xs) u v)
before_filter p [] u v pu pv h = h
before_filter p (x ∷ xs) u v pu pv h = elim (or_cases (x == u && has xs v) (before xs u v) h) [
  | inl a ↦
      let q = and_parts (x == u) (has xs v) a in
      let on : p x ≡ true = subst (λ (w : ℕ). IsTrue (p w)) (sym (eqb-true x u q.0)) pu in
      rw on (or_left (x == u && has (filter p xs) v) (before (filter p xs) u v) (and_from (x == u) (has (filter p xs) v) q.0 (has_filter p xs v q.1 pv)))
  | inr b ↦ by_test (p x) (before_filter p xs u v pu pv b)
]
  where
    by_test : (b : Bool) → IsTrue (before (filter p xs) u v) → IsTrue (before (cond b (x ∷ filter p xs) (filter p xs)) u v)
    by_test true rest = or_right (x == u && has (filter p xs) v) (before (filter p xs) u v) rest
    by_test false rest = rest

-- ---- a list that is parted

pub parted_has : (p : ℕ → Bool) (xs : List ℕ) (u : ℕ) → IsTrue (has xs u) → IsTrue (has (parted p xs) u)
parted_has p xs u h = elim (cases_Bool (p u)) [
  | inl on ↦ has_append_left (filter p xs) (filter (λ w. not (p w)) xs) u (has_filter p xs u h on)
  | inr off ↦ has_append_right (filter p xs) (filter (λ w. not (p w)) xs) u (has_filter (λ w. not (p w)) xs u h (not_from_false (p u) off))
]

pub has_parted : (p : ℕ → Bool) (xs : List ℕ) (u : ℕ) → IsTrue (has (parted p xs) u) → IsTrue (has xs u)
has_parted p xs u h = elim (has_append_cases (filter p xs) (filter (λ w. not (p w)) xs) u h) [
  | inl a ↦ (filter_has p xs u a).0
  | inr b ↦ (filter_has (λ w. not (p w)) xs u b).0
]

pub length-parted : (p : ℕ → Bool) (xs : List ℕ) → length (parted p xs) ≡ length xs
length-parted p xs = length-append (filter p xs) (filter (λ w. not (p w)) xs) ∙ length-filter_both p (λ w. not (p w)) (λ w. refl) xs

distinct_filter : (p : ℕ → Bool) (xs : List ℕ) → IsTrue (is_distinct xs) → IsTrue (is_distinct (filter p xs))
distinct_filter p [] d = refl
distinct_filter p (x ∷ xs) d =
    let parts = and_parts (not (has xs x)) (is_distinct xs) d in
    by_test (p x) (not-true (has xs x) parts.0) (distinct_filter p xs parts.1)
  where
    by_test : (b : Bool) → has xs x ≡ false → IsTrue (is_distinct (filter p xs)) → IsTrue (is_distinct (cond b (x ∷ filter p xs) (filter p xs)))
    by_test true off rest = and_from (not (has (filter p xs) x)) (is_distinct (filter p xs)) (not_from_false (has (filter p xs) x) (false_from_ne_true (has (filter p xs) x) (λ t. both_ways (has xs x) off (filter_has p xs x t).0))) rest
    by_test false off rest = rest

pub distinct_parted : (p : ℕ → Bool) (xs : List ℕ) → IsTrue (is_distinct xs) → IsTrue (is_distinct (parted p xs))
distinct_parted p xs d = distinct_append (filter p xs) (filter (λ w. not (p w)) xs) (distinct_filter p xs d) (distinct_filter (λ w. not (p w)) xs d)
    (λ v h. false_from_ne_true (has (filter (λ w. not (p w)) xs) v) (λ t. both_ways (p v) (not-true (p v) (filter_has (λ w. not (p w)) xs v t).1) (filter_has p xs v h).1))

pub parted_across : (p : ℕ → Bool) (xs : List ℕ) (u v : ℕ) → IsTrue (has xs u) → IsTrue (has xs v) → p u ≡ true → p v ≡ false → IsTrue (before (parted p xs) u v)
parted_across p xs u v hu hv on off = before_across (filter p xs) (filter (λ w. not (p w)) xs) u v (has_filter p xs u hu on) (has_filter (λ w. not (p w)) xs v hv (not_from_false (p v) off))

-- what stood before another still does, if it passes wherever that one does
pub parted_before : (p : ℕ → Bool) (xs : List ℕ) (u v : ℕ) → IsTrue (before xs u v) → (IsTrue (p v) → IsTrue (p u)) → IsTrue (before (parted p xs) u v)
parted_before p xs u v h f =
    let both = before_has xs u v h in
    let not-p : ℕ → Bool = λ w. not (p w) in
    elim (cases_Bool (p u)) [
      | inl on ↦ elim (cases_Bool (p v)) [
        | inl on' ↦ before_left (filter p xs) (filter not-p xs) u v (before_filter p xs u v on on' h)
        | inr off' ↦ parted_across p xs u v both.0 both.1 on off'
      ]
      | inr off ↦ elim (cases_Bool (p v)) [
        | inl on' ↦ absurd (both_ways (p u) off (f on'))
        | inr off' ↦ before_right (filter p xs) (filter not-p xs) u v (before_filter not-p xs u v (not_from_false (p u) off) (not_from_false (p v) off') h)
      ]
    ]

pub arranged_before : (p : ℕ → Bool) (a w b : List ℕ) (u v : ℕ) → IsTrue (before (a ++ (w ++ b)) u v) → (IsTrue (has w u) → IsTrue (has w v) → IsTrue (p v) → IsTrue (p u)) → IsTrue (before (a ++ (parted p w ++ b)) u v)
arranged_before p a w b u v h f = elim (before_cases a (w ++ b) u v h) [
  | inl first ↦ before_left a (parted p w ++ b) u v first
  | inr two ↦ elim two [
    | inl across ↦ before_across a (parted p w ++ b) u v across.0 (elim (has_append_cases w b v across.1) [
      | inl in-w ↦ has_append_left (parted p w) b v (parted_has p w v in-w)
      | inr in-b ↦ has_append_right (parted p w) b v in-b
    ])
    | inr rest ↦ before_right a (parted p w ++ b) u v (elim (before_cases w b u v rest) [
      | inl in-w ↦ let both = before_has w u v in-w in before_left (parted p w) b u v (parted_before p w u v in-w (f both.0 both.1))
      | inr three ↦ elim three [
        | inl across ↦ before_across (parted p w) b u v (parted_has p w u across.0) across.1
        | inr last ↦ before_right (parted p w) b u v last
      ]
    ])
  ]
]

pub arranged_has : (p : ℕ → Bool) (a w b : List ℕ) (u : ℕ) → IsTrue (has (a ++ (w ++ b)) u) → IsTrue (has (a ++ (parted p w ++ b)) u)
arranged_has p a w b u h = elim (has_append_cases a (w ++ b) u h) [
  | inl in-a ↦ has_append_left a (parted p w ++ b) u in-a
  | inr rest ↦ has_append_right a (parted p w ++ b) u (elim (has_append_cases w b u rest) [
    | inl in-w ↦ has_append_left (parted p w) b u (parted_has p w u in-w)
    | inr in-b ↦ has_append_right (parted p w) b u in-b
  ])
]

-- ---- tables of ranks

distinct_from : (ps ks : List ℕ) (n : ℕ) → ((i : ℕ) → i < length ks → get_or ps (get_or ks i 0) 0 ≡ i + n) → IsTrue (is_distinct ks)
distinct_from ps [] n h = refl
distinct_from ps (k ∷ ks) n h =
    let rest : (i : ℕ) → i < length ks → get_or ps (get_or ks i 0) 0 ≡ i + suc n = λ i lt. (let e : get_or ps (get_or ks i 0) 0 ≡ suc i + n = h (suc i) (omega arith) in omega (arith, e)) in
    and_from (not (has ks k)) (is_distinct ks)
    (not_from_false (has ks k) (false_from_ne_true (has ks k) (λ t.
    let r = index_of ks k t in
    let later : get_or ps k 0 ≡ r.0 + suc n = subst (λ (j : ℕ). get_or ps j 0 ≡ r.0 + suc n) r.2 (rest r.0 r.1) in
    let here : get_or ps k 0 ≡ 0 + n = h 0 (omega arith) in
    omega (arith, later, here))))
    (distinct_from ps ks (suc n) rest)

pub distinct_ranked : (ranks xs : List ℕ) → AreRanks ranks xs → IsTrue (is_distinct xs)
distinct_ranked ranks xs r = distinct_from ranks xs 0 (λ i lt. (let e = r.each i lt in omega (arith, e)))

-- a part of a list, from one place to another
pub window_at : (xs : List ℕ) (low n i : ℕ) → low + n ≤ length xs → i < n → get_or (take n (drop low xs)) i 0 ≡ get_or xs (low + i) 0
window_at xs low n i le lt = get_or-take n (drop low xs) i 0 lt ∙ get_or-drop low xs i 0

pub window_len : (xs : List ℕ) (low n : ℕ) → low + n ≤ length xs → length (take n (drop low xs)) ≡ n
window_len xs low n le = length-take-le n (drop low xs) (omega (arith, length-drop low xs))

pub window_index : (xs : List ℕ) (low n u : ℕ) → low + n ≤ length xs → IsTrue (has (take n (drop low xs)) u) → (i : ℕ) × (i < n) × (get_or xs (low + i) 0 ≡ u)
window_index xs low n u le h =
    let r = index_of (take n (drop low xs)) u h in
    let lt : r.0 < n = subst (λ (m : ℕ). r.0 < m) (window_len xs low n le) r.1 in
    (r.0, lt, sym (window_at xs low n r.0 le lt) ∙ r.2)

pub window_has : (xs : List ℕ) (low n i : ℕ) → low + n ≤ length xs → i < n → IsTrue (has (take n (drop low xs)) (get_or xs (low + i) 0))
window_has xs low n i le lt = subst (λ (v : ℕ). IsTrue (has (take n (drop low xs)) v)) (window_at xs low n i le lt) (has_get_or (take n (drop low xs)) i 0 (omega (arith, window_len xs low n le)))

pub window_split : (xs : List ℕ) (low n : ℕ) → xs ≡ take low xs ++ (take n (drop low xs) ++ drop (low + n) xs)
window_split xs low n = sym (take-append-drop low xs) ∙ ap (λ (ys : List ℕ). take low xs ++ ys) (sym (take-append-drop n (drop low xs)) ∙ ap (λ (ys : List ℕ). take n (drop low xs) ++ ys) (drop-drop n low xs))

pub distinct_window : (ranks xs : List ℕ) (low n : ℕ) → low + n ≤ length xs → AreRanks ranks xs → IsTrue (is_distinct (take n (drop low xs)))
distinct_window ranks xs low n le r = distinct_from ranks (take n (drop low xs)) low (λ i lt.
    let below : i < n = omega (arith, window_len xs low n le) in
    let e : get_or ranks (get_or xs (low + i) 0) 0 ≡ low + i = r.each (low + i) (omega arith) in
    subst (λ (v : ℕ). get_or ranks v 0 ≡ i + low) (sym (window_at xs low n i le below)) (omega (arith, e)))

-- ---- a list that is written piece by piece

pub put_step : (old nodes : List ℕ) (first at v : ℕ) → first + length nodes ≤ length old → at < length nodes → v ≡ get_or nodes at 0
    → set ((take first old ++ take at nodes) ++ drop (first + at) old) (first + at) v ≡ (take first old ++ take (at + 1) nodes) ++ drop (first + (at + 1)) old
put_step old nodes first at v fits lt is =
    let front : List ℕ = take first old ++ take at nodes in
    let len : length front ≡ first + at = omega (arith, length-append (take first old) (take at nodes), length-take-le first old (omega arith), length-take-le at nodes (omega arith)) in
    let rest : List ℕ = drop (first + (at + 1)) old in
    let split : drop (first + at) old ≡ get_or old (first + at) 0 ∷ rest =
    drop_more old (first + at) 0 (omega arith) ∙ ap (λ (n : ℕ). get_or old (first + at) 0 ∷ drop n old) (let e : first + at + 1 ≡ first + (at + 1) = omega arith in e) in
    ap (λ (ks : List ℕ). set (front ++ ks) (first + at) v) split
    ∙ (set_at front (get_or old (first + at) 0) rest v (first + at) len
    ∙ (append_assoc (take first old) (take at nodes) (v ∷ rest)
    ∙ (ap (λ (ks : List ℕ). take first old ++ ks) (sym (append_assoc (take at nodes) (v ∷ []) rest) ∙ ap (λ (ks : List ℕ). ks ++ rest) (ap (λ (x : ℕ). take at nodes ++ x ∷ []) is ∙ sym (take_more nodes at 0 lt)))
    ∙ sym (append_assoc (take first old) (take (at + 1) nodes) rest))))

pub put_ranks : (ranks nodes : List ℕ) (first at : ℕ) → IsTrue (is_distinct nodes) → at < length nodes → get_or nodes at 0 < length ranks → ((j : ℕ) → j < at → get_or ranks (get_or nodes j 0) 0 ≡ first + j)
    → (j : ℕ) → j < at + 1 → get_or (set ranks (get_or nodes at 0) (first + at)) (get_or nodes j 0) 0 ≡ first + j
put_ranks ranks nodes first at once lt below h j low = elim (cases_lt j at) [
  | inl earlier ↦
      let gone : has (take at nodes) (get_or nodes at 0) ≡ false = last_gone (take at nodes) (get_or nodes at 0) (subst (λ (ks : List ℕ). IsTrue (is_distinct ks)) (take_more nodes at 0 lt) (distinct_take nodes (at + 1) once)) in
      let there : IsTrue (has (take at nodes) (get_or nodes j 0)) =
      subst (λ (v : ℕ). IsTrue (has (take at nodes) v)) (get_or-take at nodes j 0 earlier) (has_get_or (take at nodes) j 0 (omega (arith, length-take-le at nodes (omega arith)))) in
      get_or-set_other ranks (get_or nodes at 0) (get_or nodes j 0) (first + at) 0 (λ e. both_ways (has (take at nodes) (get_or nodes at 0)) gone (subst (λ (v : ℕ). IsTrue (has (take at nodes) v)) e there)) ∙ h j earlier
  | inr late ↦
      let e : at ≡ j = omega arith in
      subst (λ (i : ℕ). get_or (set ranks (get_or nodes at 0) (first + at)) (get_or nodes i 0) 0 ≡ first + i) e (get_or-set_same ranks (get_or nodes at 0) (first + at) 0 below)
]

pub put_others : (ranks nodes : List ℕ) (at value u : ℕ) → at < length nodes → has nodes u ≡ false → get_or (set ranks (get_or nodes at 0) value) u 0 ≡ get_or ranks u 0
put_others ranks nodes at value u lt off = get_or-set_other ranks (get_or nodes at 0) u value 0 (λ e. both_ways (has nodes u) off (subst (λ (v : ℕ). IsTrue (has nodes v)) (sym e) (has_get_or nodes at 0 lt)))

-- ---- the ranks after the whole

pub put_are_ranks : (old nodes ranks ranks' order' : List ℕ) (low : ℕ) → low + length nodes ≤ length old → order' ≡ take low old ++ (nodes ++ drop (low + length nodes) old)
    → ((j : ℕ) → j < length nodes → get_or ranks' (get_or nodes j 0) 0 ≡ low + j) → ((u : ℕ) → has nodes u ≡ false → get_or ranks' u 0 ≡ get_or ranks u 0) → AreRanks ranks old
    → ((u : ℕ) → IsTrue (has nodes u) → IsTrue (has (take (length nodes) (drop low old)) u)) → AreRanks ranks' order'
put_are_ranks old nodes ranks ranks' order' low fits is new others r within = subst (λ (ks : List ℕ). AreRanks ranks' ks) (sym is) (record {
  each = λ i lt. elim (cases_lt i low) [
    | inl first ↦
        let at : get_or order i 0 ≡ get_or old i 0 = get_or_append_left (take low old) (nodes ++ drop (low + m) old) 0 i (omega (arith, front)) ∙ get_or-take low old i 0 first in
        outside i (omega arith) (inl first) at
    | inr past ↦ elim (cases_lt i (low + m)) [
      | inl inner ↦
          let e : low + (i - low) ≡ i = omega arith in
          let at : get_or order i 0 ≡ get_or nodes (i - low) 0 = get_or-append_right (take low old) (nodes ++ drop (low + m) old) low i 0 front past ∙ get_or_append_left nodes (drop (low + m) old) 0 (i - low) (omega arith) in
          ap (λ (v : ℕ). get_or ranks' v 0) at ∙ (new (i - low) (omega arith) ∙ e)
      | inr last ↦
          let e : low + m + (i - low - m) ≡ i = omega arith in
          let at : get_or order i 0 ≡ get_or old i 0 =
          get_or-append_right (take low old) (nodes ++ drop (low + m) old) low i 0 front past
          ∙ (get_or-append_right nodes (drop (low + m) old) m (i - low) 0 refl (omega arith) ∙ (get_or-drop (low + m) old (i - low - m) 0 ∙ ap (λ (n : ℕ). get_or old n 0) e)) in
          outside i (omega (arith, len)) (inr last) at
    ]
  ];
})
  where
    m : ℕ
    m = length nodes

    order : List ℕ
    order = take low old ++ (nodes ++ drop (low + m) old)

    front : length (take low old) ≡ low
    front = length-take-le low old (omega arith)

    len : length order ≡ length old
    len = omega (arith, length-append (take low old) (nodes ++ drop (low + m) old), front, length-append nodes (drop (low + m) old), length-drop (low + m) old)

    outside : (i : ℕ) → i < length old → (i < low) ⊎ (low + m ≤ i) → get_or order i 0 ≡ get_or old i 0 → get_or ranks' (get_or order i 0) 0 ≡ i
    outside i lt where-is at =
        let none : has nodes (get_or old i 0) ≡ false = false_from_ne_true (has nodes (get_or old i 0)) (λ t.
        let w = window_index old low m (get_or old i 0) fits (within (get_or old i 0) t) in
        let a : get_or ranks (get_or old (low + w.0) 0) 0 ≡ low + w.0 = r.each (low + w.0) (let lt' = w.1 in omega arith) in
        let b : get_or ranks (get_or old (low + w.0) 0) 0 ≡ i = ap (λ (v : ℕ). get_or ranks v 0) w.2 ∙ r.each i lt in
        let lt' = w.1 in
        elim where-is [ inl before' ↦ omega (arith, a, b, lt', before') | inr after ↦ omega (arith, a, b, lt', after) ]) in
        ap (λ (v : ℕ). get_or ranks' v 0) at ∙ (others (get_or old i 0) none ∙ r.each i lt)

-- ---- gathering

pub passes_as : (marks : List Bool) (mark : Bool) (u : ℕ) → beq (get_or marks u false) mark ≡ is_marked_as marks mark u
passes_as marks true u = by_test (get_or marks u false)
  where
    by_test : (b : Bool) → beq b true ≡ b
    by_test true = refl
    by_test false = refl
passes_as marks false u = by_test (get_or marks u false)
  where
    by_test : (b : Bool) → beq b false ≡ not b
    by_test true = refl
    by_test false = refl

pub gathered_few : (p : ℕ → Bool) (xs : List ℕ) (i : ℕ) → i < length xs → p (get_or xs i 0) ≡ true → length (filter p (take i xs)) + 1 ≤ length (filter p xs)
gathered_few p xs i lt on =
    let more : length (filter p (take (i + 1) xs)) ≡ length (filter p (take i xs)) + 1 = length-filter_more p xs i 0 lt ∙ ap (λ (b : Bool). length (filter p (take i xs)) + cond b 1 0) on in
    let whole : length (filter p xs) ≡ length (filter p (take (i + 1) xs)) + length (filter p (drop (i + 1) xs)) =
    ap (λ (ks : List ℕ). length (filter p ks)) (sym (take-append-drop (i + 1) xs)) ∙ (ap (λ (ks : List ℕ). length ks) (filter-append p (take (i + 1) xs) (drop (i + 1) xs)) ∙ length-append (filter p (take (i + 1) xs)) (filter p (drop (i + 1) xs))) in
    omega (arith, more, whole)

pub gathered_both : (p : ℕ → Bool) (w cleared first second buffer : List ℕ) → cleared ≡ [] → first ≡ cleared ++ filter p w → second ≡ first ++ filter (λ u. not (p u)) w → buffer ≡ second → buffer ≡ parted p w
gathered_both p w cleared first second buffer none one two is = is ∙ (two ∙ ap (λ (ks : List ℕ). ks ++ filter (λ u. not (p u)) w) (one ∙ ap (λ (ks : List ℕ). ks ++ filter p w) none))

-- what the parted window of a list is
pub record IsWindow (p : ℕ → Bool) (xs buffer : List ℕ) (low n : ℕ) : Type 0 where
  pub is : buffer ≡ parted p (take n (drop low xs))
  pub len : length buffer ≡ n
  pub within : (u : ℕ) → IsTrue (has buffer u) → IsTrue (has (take n (drop low xs)) u)

pub is_window : (p : ℕ → Bool) (xs buffer : List ℕ) (low n : ℕ) → low + n ≤ length xs → buffer ≡ parted p (take n (drop low xs)) → IsWindow p xs buffer low n
is_window p xs buffer low n le is = record {
  is = is;
  len = ap (λ (ks : List ℕ). length ks) is ∙ (length-parted p (take n (drop low xs)) ∙ window_len xs low n le);
  within = λ u h. has_parted p (take n (drop low xs)) u (subst (λ (ks : List ℕ). IsTrue (has ks u)) is h);
}

pub window_known : (p : ℕ → Bool) (P : ℕ → Type 0) (xs buffer : List ℕ) (low n : ℕ) → IsWindow p xs buffer low n → All P xs → All P buffer
window_known p P xs buffer low n w all =
    let inner : All P (take n (drop low xs)) = All-take P n (drop low xs) (All-drop P low xs all) in
    subst (λ (ks : List ℕ). All P ks) (sym w.is) (All-append P (filter p (take n (drop low xs))) (filter (λ u. not (p u)) (take n (drop low xs))) (All-filter p P (take n (drop low xs)) inner) (All-filter (λ u. not (p u)) P (take n (drop low xs)) inner))

pub window_once : (p : ℕ → Bool) (ranks xs buffer : List ℕ) (low n : ℕ) → low + n ≤ length xs → IsWindow p xs buffer low n → AreRanks ranks xs → IsTrue (is_distinct buffer)
window_once p ranks xs buffer low n le w r = subst (λ (ks : List ℕ). IsTrue (is_distinct ks)) (sym w.is) (distinct_parted p (take n (drop low xs)) (distinct_window ranks xs low n le r))

pub window_arranged : (p : ℕ → Bool) (xs buffer order' : List ℕ) (low high : ℕ) → low ≤ high → IsWindow p xs buffer low (high + 1 - low) → order' ≡ take low xs ++ (buffer ++ drop (low + length buffer) xs) → order' ≡ arranged p xs low high
window_arranged p xs buffer order' low high le w is =
    let e : low + length buffer ≡ high + 1 = let len = w.len in omega arith in
    is ∙ (ap (λ (n : ℕ). take low xs ++ (buffer ++ drop n xs)) e ∙ ap (λ (ks : List ℕ). take low xs ++ (ks ++ drop (high + 1) xs)) w.is)

pub window_ranks : (p : ℕ → Bool) (xs buffer ranks ranks' order' : List ℕ) (low n : ℕ) → low + n ≤ length xs → IsWindow p xs buffer low n → order' ≡ take low xs ++ (buffer ++ drop (low + length buffer) xs)
    → ((j : ℕ) → j < length buffer → get_or ranks' (get_or buffer j 0) 0 ≡ low + j) → ((u : ℕ) → has buffer u ≡ false → get_or ranks' u 0 ≡ get_or ranks u 0) → AreRanks ranks xs → AreRanks ranks' order'
window_ranks p xs buffer ranks ranks' order' low n le w is new others r =
    put_are_ranks xs buffer ranks ranks' order' low (let len = w.len in omega arith) is new others r
    (λ u h. subst (λ (m : ℕ). IsTrue (has (take m (drop low xs)) u)) (sym w.len) (w.within u h))
