-- The list of arrivals, and its first parts by stamp.
use Rattle.std.proofs.Common.{◌≡◌, ℕ, zero, suc, ◌<◌, ◌≤◌, ◌-◌, ◌⊎◌, true, false, List, [], ◌∷◌, ◌++◌, length, get_or, set, take, drop, refl, sym, ap, subst, ◌∙◌, inl, inr, arith, length-append}
use Rattle.std.specs.Prelude.{IsTrue, All, nat_le}
use Rattle.std.proofs.lemmas.Bool.{le-leb, lt-leb, leb-true, cases_lt, false_from_ne_true, both_ways}
use Rattle.std.proofs.lemmas.List.{map-append, length-map, get_or-map, get_or_append_left, get_or_push, get_or-set_same, get_or-set_other, length-set, get_or-take, append-nil}
use Rattle.std.proofs.lemmas.List.Elements.{filter-append}
use Rattle.mono_graph.specs.Digraph.{has}
use Rattle.mono_graph.proofs.Membership.{has_get_or, has_cons, has_here, has_there, same_truth}
use Rattle.mono_dynamic.specs.declared.arrival.Arrival.{Arrival}
use Rattle.mono_dynamic.specs.Arrivals.{no_arrival, after, arrival_at, reached, is_reached, within}
use Rattle.mono_dynamic.specs.Reached.{ArePlaced, AreOrdered, IsKept}
use Rattle.mono_dynamic.proofs.Lists.{index_of, NamesPlaces, no_more, has_room}

pub node_at : (xs : List Arrival) (i : ℕ) → i < length xs → get_or (reached xs) i 0 ≡ (arrival_at xs i).node
node_at xs i lt = get_or-map (λ (a : Arrival). a.node) xs i no_arrival 0 lt

pub count_of : (xs : List Arrival) → length (reached xs) ≡ length xs
count_of xs = length-map xs (λ (a : Arrival). a.node)

pub reached_index : (xs : List Arrival) (v : ℕ) → IsTrue (is_reached xs v) → (i : ℕ) × (i < length xs) × ((arrival_at xs i).node ≡ v)
reached_index xs v h =
    let r = index_of (reached xs) v h in
    let lt : r.0 < length xs = omega (arith, r.1, count_of xs) in
    (r.0, lt, sym (node_at xs r.0 lt) ∙ r.2)

pub reached_here : (xs : List Arrival) (i : ℕ) → i < length xs → IsTrue (is_reached xs (arrival_at xs i).node)
reached_here xs i lt = subst (λ (v : ℕ). IsTrue (is_reached xs v)) (node_at xs i lt) (has_get_or (reached xs) i 0 (omega (arith, count_of xs)))

pub reached_push : (xs : List Arrival) (a : Arrival) → reached (xs ++ a ∷ []) ≡ reached xs ++ a.node ∷ []
reached_push xs a = map-append (λ (b : Arrival). b.node) xs (a ∷ [])

pub arrival_kept : (xs : List Arrival) (a : Arrival) (i : ℕ) → i < length xs → arrival_at (xs ++ a ∷ []) i ≡ arrival_at xs i
arrival_kept xs a i lt = get_or_append_left xs (a ∷ []) no_arrival i lt

pub arrival_new : (xs : List Arrival) (a : Arrival) → arrival_at (xs ++ a ∷ []) (length xs) ≡ a
arrival_new xs a = get_or_push xs a no_arrival (length xs) refl

pub places_named : (ps : List ℕ) (xs : List Arrival) → ArePlaced ps xs → NamesPlaces ps (reached xs)
places_named ps xs p = record {
  held = λ i lt. let low : i < length xs = omega (arith, lt, count_of xs) in subst (λ (v : ℕ). v < length ps) (sym (node_at xs i low)) (p.each i low).0;
  is = λ i lt. let low : i < length xs = omega (arith, lt, count_of xs) in subst (λ (v : ℕ). get_or ps v 0 ≡ i) (sym (node_at xs i low)) (p.each i low).1;
}

-- a node that the table gives no arrival was not reached
pub not_reached : (ps : List ℕ) (xs : List Arrival) (v p : ℕ) → ArePlaced ps xs → p ≡ get_or ps v 0 → (p < length xs → (arrival_at xs p).node ≡ v → ⊥) → is_reached xs v ≡ false
not_reached ps xs v p placed is none = false_from_ne_true (is_reached xs v) (λ h.
    let r = reached_index xs v h in
    let at : p ≡ r.0 = is ∙ (ap (λ (w : ℕ). get_or ps w 0) (sym r.2) ∙ (placed.each r.0 r.1).1) in
    none (subst (λ (i : ℕ). i < length xs) (sym at) r.1) (subst (λ (i : ℕ). (arrival_at xs i).node ≡ v) (sym at) r.2))

pub few_reached : (ps : List ℕ) (xs : List Arrival) → ArePlaced ps xs → length xs ≤ length ps
few_reached ps xs p = omega (arith, no_more ps (reached xs) (places_named ps xs p), count_of xs)

pub room_left : (ps : List ℕ) (xs : List Arrival) (v : ℕ) → ArePlaced ps xs → v < length ps → is_reached xs v ≡ false → length xs < length ps
room_left ps xs v p lt none = omega (arith, has_room ps (reached xs) v (places_named ps xs p) lt none, count_of xs)

pub placed_push : (ps : List ℕ) (xs : List Arrival) (a : Arrival) → ArePlaced ps xs → a.node < length ps → is_reached xs a.node ≡ false → ArePlaced (set ps a.node (length xs)) (xs ++ a ∷ [])
placed_push ps xs a p lt none = record {
  each = λ i below. elim (cases_lt i (length xs)) [
    | inl old ↦
        let was = p.each i old in
        let other : (arrival_at xs i).node ≡ a.node → ⊥ = λ e. both_ways (is_reached xs a.node) none (subst (λ (v : ℕ). IsTrue (is_reached xs v)) e (reached_here xs i old)) in
        subst (λ (b : Arrival). (b.node < length (set ps a.node (length xs))) × (get_or (set ps a.node (length xs)) b.node 0 ≡ i)) (sym (arrival_kept xs a i old))
        (let held = was.0 in omega (arith, held, length-set ps a.node (length xs)), get_or-set_other ps a.node (arrival_at xs i).node (length xs) 0 other ∙ was.1)
    | inr new ↦
        let e : length xs ≡ i = omega (arith, length-append xs (a ∷ [])) in
        subst (λ (b : Arrival). (b.node < length (set ps a.node (length xs))) × (get_or (set ps a.node (length xs)) b.node 0 ≡ i))
        (sym (get_or_push xs a no_arrival i e))
        (omega (arith, lt, length-set ps a.node (length xs)), get_or-set_same ps a.node (length xs) 0 lt ∙ e)
  ];
}

pub ordered_push : (u : ℕ) (xs : List Arrival) (a : Arrival) → AreOrdered u xs → a.before < length xs → All (λ (b : Arrival). b.stamp ≤ a.stamp) xs → AreOrdered u (xs ++ a ∷ [])
ordered_push u xs a o before stamps = record {
  some = let some = o.some in omega (arith, length-append xs (a ∷ []));
  first = arrival_kept xs a 0 o.some ∙ o.first;
  before = λ i pos lt. elim (cases_lt i (length xs)) [
    | inl old ↦ subst (λ (b : Arrival). b.before < i) (sym (arrival_kept xs a i old)) (o.before i pos old)
    | inr new ↦
        let e : length xs ≡ i = omega (arith, length-append xs (a ∷ [])) in
        subst (λ (b : Arrival). b.before < i) (sym (get_or_push xs a no_arrival i e)) (omega arith)
  ];
  rising = λ i j le lt. elim (cases_lt j (length xs)) [
    | inl old ↦
        subst (λ (b : Arrival). (arrival_at (xs ++ a ∷ []) i).stamp ≤ b.stamp) (sym (arrival_kept xs a j old))
        (subst (λ (b : Arrival). b.stamp ≤ (arrival_at xs j).stamp) (sym (arrival_kept xs a i (omega arith))) (o.rising i j le old))
    | inr new ↦
        let e : length xs ≡ j = omega (arith, length-append xs (a ∷ [])) in
        subst (λ (b : Arrival). (arrival_at (xs ++ a ∷ []) i).stamp ≤ b.stamp) (sym (get_or_push xs a no_arrival j e))
        (elim (cases_lt i (length xs)) [
          | inl old ↦ subst (λ (b : Arrival). b.stamp ≤ a.stamp) (sym (arrival_kept xs a i old)) (stamps i no_arrival old)
          | inr last ↦
              let f : length xs ≡ i = omega arith in
              subst (λ (b : Arrival). b.stamp ≤ a.stamp) (sym (get_or_push xs a no_arrival i f)) (omega arith)
        ])
  ];
}

-- ---- first parts by stamp

pub within_here : (m : ℕ) (x : Arrival) (xs : List Arrival) → x.stamp ≤ m → within m (x ∷ xs) ≡ x ∷ within m xs
within_here m x xs le = let on : nat_le x.stamp m ≡ true = le-leb x.stamp m le in rw on refl

pub within_past : (m : ℕ) (x : Arrival) (xs : List Arrival) → m < x.stamp → within m (x ∷ xs) ≡ within m xs
within_past m x xs lt = let off : nat_le x.stamp m ≡ false = lt-leb x.stamp m lt in rw off refl

pub within_all : (m : ℕ) (xs : List Arrival) → All (λ (a : Arrival). a.stamp ≤ m) xs → within m xs ≡ xs
within_all m [] h = refl
within_all m (x ∷ xs) h = within_here m x xs (h 0 no_arrival (omega arith)) ∙ ap (λ (ys : List Arrival). x ∷ ys) (within_all m xs (λ i d lt. h (suc i) d (omega arith)))

pub within_none : (m : ℕ) (xs : List Arrival) → ((i : ℕ) → i < length xs → m < (arrival_at xs i).stamp) → within m xs ≡ []
within_none m [] h = refl
within_none m (x ∷ xs) h = within_past m x xs (h 0 (omega arith)) ∙ within_none m xs (λ i lt. h (suc i) (omega arith))

pub within_push : (m : ℕ) (xs : List Arrival) (a : Arrival) → m < a.stamp → within m (xs ++ a ∷ []) ≡ within m xs
within_push m xs a lt = filter-append (λ (b : Arrival). nat_le b.stamp m) xs (a ∷ []) ∙ (ap (λ (ys : List Arrival). within m xs ++ ys) (within_past m a [] lt) ∙ append-nil (within m xs))

pub within_split : (m n : ℕ) (xs : List Arrival) → ((i : ℕ) → i < n → i < length xs → (arrival_at xs i).stamp ≤ m) → ((i : ℕ) → n ≤ i → i < length xs → m < (arrival_at xs i).stamp) → within m xs ≡ take n xs
within_split m zero xs low high = within_none m xs (λ i lt. high i (omega arith) lt)
within_split m (suc n) [] low high = refl
within_split m (suc n) (x ∷ xs) low high =
    within_here m x xs (low 0 (omega arith) (omega arith))
    ∙ ap (λ (ys : List Arrival). x ∷ ys) (within_split m n xs (λ i lt here. low (suc i) (omega arith) (omega arith)) (λ i le here. high (suc i) (omega arith) (omega arith)))

-- ---- and what is later

past_here : (m : ℕ) (x : Arrival) (xs : List Arrival) → x.stamp ≤ m → after m (x ∷ xs) ≡ after m xs
past_here m x xs le = let on : nat_le x.stamp m ≡ true = le-leb x.stamp m le in rw on refl

past_more : (m : ℕ) (x : Arrival) (xs : List Arrival) → m < x.stamp → after m (x ∷ xs) ≡ x ∷ after m xs
past_more m x xs lt = let off : nat_le x.stamp m ≡ false = lt-leb x.stamp m lt in rw off refl

past_all : (m : ℕ) (xs : List Arrival) → ((i : ℕ) → i < length xs → m < (arrival_at xs i).stamp) → after m xs ≡ xs
past_all m [] h = refl
past_all m (x ∷ xs) h = past_more m x xs (h 0 (omega arith)) ∙ ap (λ (ys : List Arrival). x ∷ ys) (past_all m xs (λ i lt. h (suc i) (omega arith)))

past_split : (m n : ℕ) (xs : List Arrival) → ((i : ℕ) → i < n → i < length xs → (arrival_at xs i).stamp ≤ m) → ((i : ℕ) → n ≤ i → i < length xs → m < (arrival_at xs i).stamp) → after m xs ≡ drop n xs
past_split m zero xs low high = past_all m xs (λ i lt. high i (omega arith) lt)
past_split m (suc n) [] low high = refl
past_split m (suc n) (x ∷ xs) low high =
    past_here m x xs (low 0 (omega arith) (omega arith)) ∙ past_split m n xs (λ i lt here. low (suc i) (omega arith) (omega arith)) (λ i le here. high (suc i) (omega arith) (omega arith))

-- the arrivals before a place have stamps up to m, and the others later ones
pub both_cut : (m n : ℕ) (xs : List Arrival) → ((i j : ℕ) → i ≤ j → j < length xs → (arrival_at xs i).stamp ≤ (arrival_at xs j).stamp) → n ≤ length xs → (n ≡ 0) ⊎ ((arrival_at xs (n - 1)).stamp ≤ m)
    → ((i : ℕ) → n ≤ i → i < length xs → m < (arrival_at xs i).stamp) → (take n xs ≡ within m xs) × (drop n xs ≡ after m xs)
both_cut m n xs rising le last high = (sym (within_split m n xs low high), sym (past_split m n xs low high))
  where
    low : (i : ℕ) → i < n → i < length xs → (arrival_at xs i).stamp ≤ m
    low i lt here = elim last [
      | inl none ↦ absurd (omega arith)
      | inr top ↦ let r = rising i (n - 1) (omega arith) (omega arith) in omega (arith, r, top)
    ]

-- a node that was reached, and by none of the later steps, was reached by the first ones
pub reached_before : (m : ℕ) (xs : List Arrival) (v : ℕ) → IsTrue (is_reached xs v) → has (reached (after m xs)) v ≡ false → IsTrue (is_reached (within m xs) v)
reached_before m [] v h none = absurd cc
reached_before m (x ∷ xs) v h none = elim (cases_lt m x.stamp) [
  | inl lt ↦
      let others : has (x.node ∷ reached (after m xs)) v ≡ false = subst (λ (ys : List Arrival). has (reached ys) v ≡ false) (past_more m x xs lt) none in
      subst (λ (ys : List Arrival). IsTrue (is_reached ys v)) (sym (within_past m x xs lt))
      (elim (has_cons x.node v (reached xs) h) [
        | inl e ↦ absurd (both_ways (has (x.node ∷ reached (after m xs)) v) others (subst (λ (w : ℕ). IsTrue (has (x.node ∷ reached (after m xs)) w)) e (has_here x.node (reached (after m xs)))))
        | inr t ↦ reached_before m xs v t (false_from_ne_true (has (reached (after m xs)) v) (λ later. both_ways (has (x.node ∷ reached (after m xs)) v) others (has_there x.node v (reached (after m xs)) later)))
      ])
  | inr le ↦
      let rest : has (reached (after m xs)) v ≡ false = subst (λ (ys : List Arrival). has (reached ys) v ≡ false) (past_here m x xs le) none in
      subst (λ (ys : List Arrival). IsTrue (is_reached ys v)) (sym (within_here m x xs le))
      (elim (has_cons x.node v (reached xs) h) [
        | inl e ↦ subst (λ (w : ℕ). IsTrue (has (x.node ∷ reached (within m xs)) w)) e (has_here x.node (reached (within m xs)))
        | inr t ↦ has_there x.node v (reached (within m xs)) (reached_before m xs v t rest)
      ])
]

pub within_prefix : (m : ℕ) (xs : List Arrival) → ((i j : ℕ) → i ≤ j → j < length xs → (arrival_at xs i).stamp ≤ (arrival_at xs j).stamp)
    → (length (within m xs) ≤ length xs) × (within m xs ≡ take (length (within m xs)) xs)
within_prefix m [] rising = (omega arith, refl)
within_prefix m (x ∷ xs) rising = elim (cases_lt m x.stamp) [
  | inl lt ↦
      let none : within m (x ∷ xs) ≡ [] = within_none m (x ∷ xs) (λ i here. (let r = rising 0 i (omega arith) here in omega (arith, r))) in
      subst (λ (ys : List Arrival). (length ys ≤ length (x ∷ xs)) × (ys ≡ take (length ys) (x ∷ xs))) (sym none) (omega arith, refl)
  | inr le ↦
      let rest = within_prefix m xs (λ i j below here. rising (suc i) (suc j) (omega arith) (omega arith)) in
      subst (λ (ys : List Arrival). (length ys ≤ length (x ∷ xs)) × (ys ≡ take (length ys) (x ∷ xs))) (sym (within_here m x xs le))
      (let fewer = rest.0 in omega (arith, fewer), ap (λ (ys : List Arrival). x ∷ ys) rest.1)
]

-- an arrival of the first part is that of the whole list at its place
pub within_at : (m : ℕ) (xs : List Arrival) (i : ℕ) → ((i j : ℕ) → i ≤ j → j < length xs → (arrival_at xs i).stamp ≤ (arrival_at xs j).stamp) → i < length (within m xs)
    → (i < length xs) × (arrival_at (within m xs) i ≡ arrival_at xs i)
within_at m xs i rising lt =
    let r = within_prefix m xs rising in
    (let fewer = r.0 in omega arith, ap (λ (ys : List Arrival). arrival_at ys i) r.1 ∙ get_or-take (length (within m xs)) xs i no_arrival lt)

pub within_index : (m : ℕ) (xs : List Arrival) (v : ℕ) → IsTrue (is_reached (within m xs) v) → (i : ℕ) × (i < length xs) × ((arrival_at xs i).node ≡ v) × ((arrival_at xs i).stamp ≤ m)
within_index m [] v h = absurd cc
within_index m (x ∷ xs) v h = elim (cases_lt m x.stamp) [
  | inl lt ↦
      let r = within_index m xs v (subst (λ (ys : List Arrival). IsTrue (is_reached ys v)) (within_past m x xs lt) h) in
      (suc r.0, omega (arith, r.1), r.2, r.3)
  | inr le ↦ elim (has_cons x.node v (reached (within m xs)) (subst (λ (ys : List Arrival). IsTrue (is_reached ys v)) (within_here m x xs le) h)) [
    | inl e ↦ (0, omega arith, e, le)
    | inr t ↦ let r = within_index m xs v t in (suc r.0, omega (arith, r.1), r.2, r.3)
  ]
]

pub within_has : (m : ℕ) (xs : List Arrival) (i : ℕ) → i < length xs → (arrival_at xs i).stamp ≤ m → IsTrue (is_reached (within m xs) (arrival_at xs i).node)
within_has m [] i lt le = absurd (omega arith)
within_has m (x ∷ xs) zero lt le = subst (λ (ys : List Arrival). IsTrue (is_reached ys x.node)) (sym (within_here m x xs le)) (has_here x.node (reached (within m xs)))
within_has m (x ∷ xs) (suc i) lt le =
    let there = within_has m xs i (omega arith) le in
    elim (cases_lt m x.stamp) [
      | inl past ↦ subst (λ (ys : List Arrival). IsTrue (is_reached ys (arrival_at xs i).node)) (sym (within_past m x xs past)) there
      | inr here ↦ subst (λ (ys : List Arrival). IsTrue (is_reached ys (arrival_at xs i).node)) (sym (within_here m x xs here)) (has_there x.node (arrival_at xs i).node (reached (within m xs)) there)
    ]

-- the stamp of a node's arrival tells after which steps it is reached
pub stamp_tells : (ps : List ℕ) (xs : List Arrival) (v i m : ℕ) → ArePlaced ps xs → i < length xs → (arrival_at xs i).node ≡ v → is_reached (within m xs) v ≡ nat_le (arrival_at xs i).stamp m
stamp_tells ps xs v i m placed lt is = same_truth (is_reached (within m xs) v) (nat_le (arrival_at xs i).stamp m)
    (λ h.
    let r = within_index m xs v h in
    let same : i ≡ r.0 = sym (placed.each i lt).1 ∙ (ap (λ (w : ℕ). get_or ps w 0) (is ∙ sym r.2) ∙ (placed.each r.0 r.1).1) in
    le-leb (arrival_at xs i).stamp m (subst (λ (j : ℕ). (arrival_at xs j).stamp ≤ m) (sym same) r.3))
    (λ h. subst (λ (w : ℕ). IsTrue (is_reached (within m xs) w)) is (within_has m xs i lt (leb-true (arrival_at xs i).stamp m h)))

pub never_reached : (xs : List Arrival) (v m : ℕ) → is_reached xs v ≡ false → is_reached (within m xs) v ≡ false
never_reached xs v m none = false_from_ne_true (is_reached (within m xs) v) (λ h.
    let r = within_index m xs v h in both_ways (is_reached xs v) none (subst (λ (w : ℕ). IsTrue (is_reached xs w)) r.2 (reached_here xs r.0 r.1)))

pub within_low : (m : ℕ) (xs : List Arrival) (i : ℕ) → ((i j : ℕ) → i ≤ j → j < length xs → (arrival_at xs i).stamp ≤ (arrival_at xs j).stamp) → i < length xs → (arrival_at xs i).stamp ≤ m → i < length (within m xs)
within_low m [] i rising lt le = absurd (omega arith)
within_low m (x ∷ xs) zero rising lt le = subst (λ (ys : List Arrival). 0 < length ys) (sym (within_here m x xs le)) (omega arith)
within_low m (x ∷ xs) (suc i) rising lt le =
    let first : x.stamp ≤ (arrival_at xs i).stamp = rising 0 (suc i) (omega arith) lt in
    subst (λ (ys : List Arrival). suc i < length ys) (sym (within_here m x xs (omega arith)))
    (let rest : i < length (within m xs) = within_low m xs i (λ k j below here. rising (suc k) (suc j) (omega arith) (omega arith)) (omega arith) le in omega (arith, rest))

-- ---- what is kept

pub kept_push : (u : ℕ) (ps : List ℕ) (xs : List Arrival) (room more : ℕ) (a : Arrival) → IsKept u ps xs room → room ≤ more → a.node < length ps → is_reached xs a.node ≡ false → a.before < length xs
    → All (λ (b : Arrival). b.stamp ≤ a.stamp) xs → IsKept u (set ps a.node (length xs)) (xs ++ a ∷ []) more
kept_push u ps xs room more a k le lt none before stamps = record {
  few = let few = k.few in omega (arith, few, length-set ps a.node (length xs));
  roomy = let roomy = k.roomy in omega (arith, roomy, length-set ps a.node (length xs));
  placed = placed_push ps xs a k.placed lt none;
  ordered = ordered_push u xs a k.ordered before stamps;
}

pub ordered_within : (m u : ℕ) (xs : List Arrival) → AreOrdered u xs → AreOrdered u (within m xs)
ordered_within m u xs o =
    let source : (arrival_at xs 0).stamp ≤ m = subst (λ (a : Arrival). a.stamp ≤ m) (sym o.first) (omega arith) in
    let some : 0 < length (within m xs) = within_low m xs 0 o.rising o.some source in
    record {
      some = some;
      first = (within_at m xs 0 o.rising some).1 ∙ o.first;
      before = λ i pos lt. let r = within_at m xs i o.rising lt in subst (λ (a : Arrival). a.before < i) (sym r.1) (o.before i pos r.0);
      rising = λ i j le lt.
          let r = within_at m xs j o.rising lt in
          let q = within_at m xs i o.rising (omega arith) in
          subst (λ (a : Arrival). (arrival_at (within m xs) i).stamp ≤ a.stamp) (sym r.1) (subst (λ (a : Arrival). a.stamp ≤ (arrival_at xs j).stamp) (sym q.1) (o.rising i j le r.0));
    }

pub kept_within : (m u : ℕ) (ps : List ℕ) (xs : List Arrival) (room : ℕ) → IsKept u ps xs room → IsKept u ps (within m xs) room
kept_within m u ps xs room k = record {
  few = k.few;
  roomy = k.roomy;
  placed = record {
    each = λ i lt. let r = within_at m xs i k.ordered.rising lt in subst (λ (a : Arrival). (a.node < length ps) × (get_or ps a.node 0 ≡ i)) (sym r.1) (k.placed.each i r.0);
  };
  ordered = ordered_within m u xs k.ordered;
}

-- a node whose arrival is known was reached by the steps up to m where the arrival is among theirs
pub arrival_within : (u m : ℕ) (ps : List ℕ) (xs : List Arrival) (v i room : ℕ) → IsKept u ps xs room → i < length xs → (arrival_at xs i).node ≡ v → IsTrue (is_reached (within m xs) v) → i < length (within m xs)
arrival_within u m ps xs v i room k lt is h =
    let r = within_index m xs v h in
    let same : i ≡ r.0 = sym (k.placed.each i lt).1 ∙ (ap (λ (w : ℕ). get_or ps w 0) (is ∙ sym r.2) ∙ (k.placed.each r.0 r.1).1) in
    within_low m xs i k.ordered.rising lt (subst (λ (j : ℕ). (arrival_at xs j).stamp ≤ m) (sym same) r.3)
