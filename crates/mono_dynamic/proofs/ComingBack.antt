-- Searches that go back from a node to a tree.
use Rattle.std.proofs.Common.{◌≡◌, ◌≢◌, ℕ, suc, ◌+◌, ◌-◌, ◌<◌, ◌≤◌, ◌⊎◌, Bool, cond, List, [], ◌∷◌, ◌++◌, length, take, get_or, refl, sym, ap, subst, ◌∙◌, inl, inr, arith, length-append}
use Rattle.std.specs.Prelude.{IsTrue, All, ◌==◌}
use Rattle.std.specs.List.{list_all}
use Rattle.std.proofs.lemmas.Bool.{and_parts, cases_Bool, cases_eq, cases_lt, eqb-true, ltb-true}
use Rattle.std.proofs.lemmas.List.{get_or-take, get_or_default, get_or_push, length-take-le}
use Rattle.std.proofs.lemmas.List.Elements.{All-push}
use Rattle.mono_graph.specs.declared.edge.Edge.{Edge}
use Rattle.mono_graph.specs.Digraph.{Digraph, edge_at, present, has, is_place, entering, places as places_of}
use Rattle.mono_graph.specs.Walks.{is_walk, leads}
use Rattle.mono_graph.proofs.GrownWalks.{walks, walk_none, walk_push}
use Rattle.mono_graph.proofs.Membership.{at_places, filter_has, has_get_or}
use Rattle.mono_dynamic.specs.declared.arrival.Arrival.{Arrival}
use Rattle.mono_dynamic.specs.Arrivals.{no_arrival, arrival_at, at_source, is_reached, within, IsTree}
use Rattle.mono_dynamic.specs.Reached.{Reached}
use Rattle.mono_dynamic.specs.Mending.{AreOut, HasGrown, IsBack, IsComing, IsExtended, IsLonger, IsMendedTree, IsOnward, IsOut}
use Rattle.mono_dynamic.proofs.Lists.{index_of}
use Rattle.mono_dynamic.proofs.Listed.{reached_index, reached_here, arrival_kept, within_split}
use Rattle.mono_dynamic.proofs.Followed.{arrival_by, tree_push, reached_old, reached_new}
use Rattle.mono_dynamic.proofs.Exact.{reached_walk}

-- ---- arrivals that are added

pub longer_same : (xs : List Arrival) → IsLonger xs xs
longer_same xs = record { len = omega arith; same = λ i lt. refl }

pub longer_push : (xs ys : List Arrival) (a : Arrival) → IsLonger xs ys → IsLonger xs (ys ++ a ∷ [])
longer_push xs ys a l = record {
  len = let len = l.len in omega (arith, length-append ys (a ∷ []));
  same = λ i lt. arrival_kept ys a i (let len = l.len in omega arith) ∙ l.same i lt;
}

pub longer_more : (xs ys zs : List Arrival) → IsLonger xs ys → IsLonger ys zs → IsLonger xs zs
longer_more xs ys zs l m = record {
  len = let a = l.len in let b = m.len in omega arith;
  same = λ i lt. m.same i (let a = l.len in omega arith) ∙ l.same i lt;
}

-- the arrivals at a list's end that were added, if the node was new
abbrev pub arrived : List Arrival → Arrival → List Arrival
arrived xs a = cond (is_reached xs a.node) xs (xs ++ a ∷ [])

pub longer_arrived : (xs ys : List Arrival) (a : Arrival) → IsLonger xs ys → IsLonger xs (arrived ys a)
longer_arrived xs ys a l = elim (cases_Bool (is_reached ys a.node)) [
  | inl there ↦ rw there l
  | inr none ↦ rw none (longer_push xs ys a l)
]

pub stamps_low : (g : Digraph) (P : List Bool) (u first head : ℕ) (xs : List Arrival) → IsComing g P u first head xs → All (λ a. a.stamp ≤ first) xs
stamps_low g P u first head xs c = λ i d lt. subst (λ (a : Arrival). a.stamp ≤ first) (get_or_default xs i no_arrival d lt) (elim (cases_lt i first) [
  | inl old ↦ let below = c.below i old in omega (arith, below)
  | inr new ↦ let is = c.stamps i new lt in omega (arith, is)
])

-- ---- no walk leads to them

-- no walk leads to the start of an edge to the end of which none leads
pub out_before : (g : Digraph) (P : List Bool) (u k v : ℕ) → k < length g.edges → IsTrue (present P k) → (edge_at g k).to ≡ v → IsOut g P u v → IsOut g P u (edge_at g k).from
out_before g P u k v lt here to out ks h = out (ks ++ k ∷ []) (subst (λ (w : ℕ). IsTrue (is_walk g P u w (ks ++ k ∷ []))) to (walk_push g P u (edge_at g k).from k ks h lt here refl))

-- from where the search came back a walk leads, or none does; so along each walk that ends there
comes_back : (g : Digraph) (P : List Bool) (u first head : ℕ) (xs : List Arrival) → IsComing g P u first head xs → length xs ≤ head → (w v : ℕ) (ks : List ℕ)
    → IsTrue (list_all (is_place g) ks) → IsTrue (list_all (present P) ks) → IsTrue (leads g w ks v) → IsBack g P u first xs v → IsBack g P u first xs w
comes_back g P u first head xs c all w v [] known here way back = subst (λ (x : ℕ). IsBack g P u first xs x) (sym (eqb-true w v way)) back
comes_back g P u first head xs c all w v (k ∷ ks) known here way back =
    let q = and_parts (is_place g k) (list_all (is_place g) ks) known in
    let p = and_parts (present P k) (list_all (present P) ks) here in
    let x = and_parts ((edge_at g k).from == w) (leads g (edge_at g k).to ks v) way in
    let lt : k < length g.edges = ltb-true k (length g.edges) q.0 in
    subst (λ (y : ℕ). IsBack g P u first xs y) (eqb-true (edge_at g k).from w x.0)
    (elim (comes_back g P u first head xs c all (edge_at g k).to v ks q.1 p.1 x.1 back) [
      | inl at ↦ c.closed at.0 k at.1 (let low = at.2 in omega arith) at.2 lt p.0 (sym at.3)
      | inr out ↦ inr (out_before g P u k (edge_at g k).to lt p.0 refl out)
    ])

pub all_out : (g : Digraph) (P : List Bool) (u first head : ℕ) (xs : List Arrival) → IsComing g P u first head xs → length xs ≤ head → AreOut g P u xs
all_out g P u first head xs c all = record {
  some = let begun = c.begun in let held = c.held in omega arith;
  source = c.source;
  out = λ i pos lt. elim (cases_lt i first) [
    | inl old ↦ c.out i pos old
    | inr new ↦ λ ks h.
        let w = walks g P u (arrival_at xs i).node ks h in
        elim (comes_back g P u first head xs c all u (arrival_at xs i).node ks w.known w.here w.way (inl (i, new, lt, refl))) [
          | inl at ↦ c.other at.0 at.1 at.2 at.3
          | inr out ↦ out [] (walk_none g P u)
        ]
  ];
  below = λ i lt. elim (cases_lt i first) [
    | inl old ↦ let below = c.below i old in let held = c.held in omega arith
    | inr new ↦ let is = c.stamps i new lt in omega arith
  ];
}

-- what came with the search goes
pub out_back : (g : Digraph) (P : List Bool) (u first head : ℕ) (xs : List Arrival) → IsComing g P u first head xs → AreOut g P u (within (first - 1) xs)
out_back g P u first head xs c = subst (λ (ys : List Arrival). AreOut g P u ys) (sym is) (record {
  some = let begun = c.begun in omega (arith, count);
  source = ap (λ (a : Arrival). a.node) (kept 0 c.begun) ∙ c.source;
  out = λ i pos lt. subst (λ (a : Arrival). IsOut g P u a.node) (sym (kept i (omega (arith, count)))) (c.out i pos (omega (arith, count)));
  below = λ i lt. subst (λ (a : Arrival). a.stamp < length (take first xs)) (sym (kept i (omega (arith, count)))) (let low = c.below i (omega (arith, count)) in omega (arith, count));
})
  where
    is : within (first - 1) xs ≡ take first xs
    is = within_split (first - 1) first xs (λ i lt here. (let low = c.below i lt in omega arith)) (λ i le here. (let s = c.stamps i le here in let begun = c.begun in omega arith))

    count : length (take first xs) ≡ first
    count = length-take-le first xs c.held

    kept : (i : ℕ) → i < first → arrival_at (take first xs) i ≡ arrival_at xs i
    kept i lt = get_or-take first xs i no_arrival (omega (arith, count))

-- the first arrival alone
pub out_alone : (g : Digraph) (P : List Bool) (u : ℕ) → AreOut g P u (at_source u ∷ [])
out_alone g P u = record {
  some = omega arith;
  source = refl;
  out = λ i pos lt. absurd (omega arith);
  below = λ i lt. (let e : 0 ≡ i = omega arith in let low : 0 < 1 = omega arith in subst (λ (j : ℕ). (arrival_at (at_source u ∷ []) j).stamp < 1) e low);
}

-- a node that was reached, other than u
pub out_reached : (g : Digraph) (P : List Bool) (u v : ℕ) (xs : List Arrival) → AreOut g P u xs → v ≢ u → IsTrue (is_reached xs v) → IsOut g P u v
out_reached g P u v xs o other there =
    let r = reached_index xs v there in
    subst (λ (w : ℕ). IsOut g P u w) r.2 (o.out r.0 (elim (cases_eq r.0 0) [
      | inl e ↦ absurd (other (sym r.2 ∙ (ap (λ (j : ℕ). (arrival_at xs j).node) e ∙ o.source)))
      | inr ne ↦ omega arith
    ]) r.1)

-- ---- a search begins

pub reached_longer : (xs ys : List Arrival) (v : ℕ) → IsLonger xs ys → IsTrue (is_reached xs v) → IsTrue (is_reached ys v)
reached_longer xs ys v l h =
    let r = reached_index xs v h in
    subst (λ (w : ℕ). IsTrue (is_reached ys w)) (ap (λ (a : Arrival). a.node) (l.same r.0 r.1) ∙ r.2) (reached_here ys r.0 (let lt = r.1 in let len = l.len in omega arith))

pub arrived_there : (xs : List Arrival) (a : Arrival) → IsTrue (is_reached (arrived xs a) a.node)
arrived_there xs a = elim (cases_Bool (is_reached xs a.node)) [
  | inl there ↦ rw there there
  | inr none ↦ rw none (reached_new xs a)
]

pub arrived_last : (xs : List Arrival) (a : Arrival) (first : ℕ) → first ≡ length xs → first < length (arrived xs a) → (arrival_at (arrived xs a) first).node ≡ a.node
arrived_last xs a first size = elim (cases_Bool (is_reached xs a.node)) [
  | inl there ↦ rw there (λ lt. absurd (omega arith))
  | inr none ↦ rw none (λ lt. ap (λ (x : Arrival). x.node) (get_or_push xs a no_arrival first (sym size)))
]

pub coming_first : (g : Digraph) (P : List Bool) (u first target : ℕ) (a : Arrival) (xs : List Arrival) → AreOut g P u xs → first ≡ length xs → a.node ≡ target → a.stamp ≡ first → target ≢ u → IsComing g P u first first (arrived xs a)
coming_first g P u first target a xs o size node stamp other = elim (cases_Bool (is_reached xs a.node)) [
  | inl there ↦ rw there (record {
    begun = let some = o.some in omega arith;
    held = omega arith;
    source = o.source;
    out = λ i pos lt. o.out i pos (omega arith);
    below = λ i lt. (let low = o.below i (omega arith) in omega arith);
    stamps = λ i le lt. absurd (omega arith);
    other = λ i le lt. absurd (omega arith);
    onward = λ i le lt. absurd (omega arith);
    closed = λ i k le low. absurd (omega arith);
  })
  | inr none ↦ rw none (record {
    begun = let some = o.some in omega arith;
    held = omega (arith, length-append xs (a ∷ []));
    source = ap (λ (x : Arrival). x.node) (arrival_kept xs a 0 o.some) ∙ o.source;
    out = λ i pos lt. subst (λ (x : Arrival). IsOut g P u x.node) (sym (arrival_kept xs a i (omega arith))) (o.out i pos (omega arith));
    below = λ i lt. subst (λ (x : Arrival). x.stamp < first) (sym (arrival_kept xs a i (omega arith))) (let low = o.below i (omega arith) in omega arith);
    stamps = λ i le lt. ap (λ (x : Arrival). x.stamp) (last i le lt) ∙ stamp;
    other = λ i le lt e. other (sym node ∙ (ap (λ (x : Arrival). x.node) (sym (last i le lt)) ∙ e));
    onward = λ i le lt. absurd (omega (arith, length-append xs (a ∷ [])));
    closed = λ i k le low. absurd (omega arith);
  })
]
  where
    last : (i : ℕ) → first ≤ i → i < length (xs ++ a ∷ []) → arrival_at (xs ++ a ∷ []) i ≡ a
    last i le lt = get_or_push xs a no_arrival i (omega (arith, length-append xs (a ∷ [])))

-- ---- the edges that enter a node

back_longer : (g : Digraph) (P : List Bool) (u first : ℕ) (xs ys : List Arrival) (v : ℕ) → IsLonger xs ys → IsBack g P u first xs v → IsBack g P u first ys v
back_longer g P u first xs ys v l (inl at) = inl (at.0, at.1, (let lt = at.2 in let len = l.len in omega arith), ap (λ (x : Arrival). x.node) (l.same at.0 at.2) ∙ at.3)
back_longer g P u first xs ys v l (inr out) = inr out

onward_kept : (g : Digraph) (P : List Bool) (xs : List Arrival) (a : Arrival) (first i : ℕ) → i < length xs → IsOnward g P xs first i → IsOnward g P (xs ++ a ∷ []) first i
onward_kept g P xs a first i lt o = record {
  held = subst (λ (x : Arrival). first ≤ x.before) same o.held;
  low = subst (λ (x : Arrival). x.before < i) same o.low;
  known = subst (λ (x : Arrival). x.place < length g.edges) same o.known;
  present = subst (λ (x : Arrival). IsTrue (present P x.place)) same o.present;
  from = subst (λ (x : Arrival). (edge_at g x.place).from ≡ x.node) same o.from;
  to = subst (λ (x : Arrival). (edge_at g x.place).to ≡ (arrival_at (xs ++ a ∷ []) x.before).node) same
      (o.to ∙ ap (λ (x : Arrival). x.node) (sym (arrival_kept xs a (arrival_at xs i).before (let low = o.low in omega arith))));
}
  where
    same : arrival_at xs i ≡ arrival_at (xs ++ a ∷ []) i
    same = sym (arrival_kept xs a i lt)

onward_new : (g : Digraph) (P : List Bool) (xs : List Arrival) (a : Arrival) (first i : ℕ) → length xs ≡ i → first ≤ a.before → a.before < length xs → a.place < length g.edges → IsTrue (present P a.place)
    → (edge_at g a.place).from ≡ a.node → (edge_at g a.place).to ≡ (arrival_at xs a.before).node → IsOnward g P (xs ++ a ∷ []) first i
onward_new g P xs a first i is held before known here from to = record {
  held = subst (λ (x : Arrival). first ≤ x.before) same held;
  low = subst (λ (x : Arrival). x.before < i) same (omega (arith, is, before));
  known = subst (λ (x : Arrival). x.place < length g.edges) same known;
  present = subst (λ (x : Arrival). IsTrue (present P x.place)) same here;
  from = subst (λ (x : Arrival). (edge_at g x.place).from ≡ x.node) same from;
  to = subst (λ (x : Arrival). (edge_at g x.place).to ≡ (arrival_at (xs ++ a ∷ []) x.before).node) same (to ∙ ap (λ (x : Arrival). x.node) (sym (arrival_kept xs a a.before before)));
}
  where
    same : a ≡ arrival_at (xs ++ a ∷ []) i
    same = sym (get_or_push xs a no_arrival i is)

pub coming_push : (g : Digraph) (P : List Bool) (u first head : ℕ) (xs : List Arrival) (a : Arrival) → IsComing g P u first head xs → first < length xs → head ≤ length xs → a.stamp ≡ first → a.node ≢ u
    → first ≤ a.before → a.before < length xs → a.place < length g.edges → IsTrue (present P a.place) → (edge_at g a.place).from ≡ a.node → (edge_at g a.place).to ≡ (arrival_at xs a.before).node
    → IsComing g P u first head (xs ++ a ∷ [])
coming_push g P u first head xs a c some low stamp other from before known here source end = record {
  begun = c.begun;
  held = omega (arith, more);
  source = ap (λ (x : Arrival). x.node) (kept 0 (omega arith)) ∙ c.source;
  out = λ i pos lt. subst (λ (x : Arrival). IsOut g P u x.node) (sym (kept i (omega arith))) (c.out i pos lt);
  below = λ i lt. subst (λ (x : Arrival). x.stamp < first) (sym (kept i (omega arith))) (c.below i lt);
  stamps = λ i le lt. elim (cases_lt i (length xs)) [
    | inl old ↦ ap (λ (x : Arrival). x.stamp) (kept i old) ∙ c.stamps i le old
    | inr new ↦ ap (λ (x : Arrival). x.stamp) (last i new lt) ∙ stamp
  ];
  other = λ i le lt e. elim (cases_lt i (length xs)) [
    | inl old ↦ c.other i le old (sym (ap (λ (x : Arrival). x.node) (kept i old)) ∙ e)
    | inr new ↦ other (sym (ap (λ (x : Arrival). x.node) (last i new lt)) ∙ e)
  ];
  onward = λ i le lt. elim (cases_lt i (length xs)) [
    | inl old ↦ onward_kept g P xs a first i old (c.onward i le old)
    | inr new ↦ onward_new g P xs a first i (omega (arith, more)) from before known here source end
  ];
  closed = λ i k le less lt in-graph on to.
      back_longer g P u first xs (xs ++ a ∷ []) (edge_at g k).from (longer_push xs xs a (longer_same xs))
      (c.closed i k le less (omega arith) in-graph on (to ∙ ap (λ (x : Arrival). x.node) (kept i (omega arith))));
}
  where
    more : length (xs ++ a ∷ []) ≡ suc (length xs)
    more = omega (arith, length-append xs (a ∷ []))

    kept : (i : ℕ) → i < length xs → arrival_at (xs ++ a ∷ []) i ≡ arrival_at xs i
    kept i lt = arrival_kept xs a i lt

    last : (i : ℕ) → length xs ≤ i → i < length (xs ++ a ∷ []) → arrival_at (xs ++ a ∷ []) i ≡ a
    last i le lt = get_or_push xs a no_arrival i (omega (arith, length-append xs (a ∷ [])))

-- an edge of the list of those that enter a node leads there
pub leads_there : (g : Digraph) (u v i : ℕ) (places : List ℕ) → places ≡ entering g u → u ≡ v → i < length places → (edge_at g (get_or places i 0)).to ≡ v
leads_there g u v i places are same lt =
    let listed : IsTrue (has (entering g u) (get_or places i 0)) = subst (λ (ks : List ℕ). IsTrue (has ks (get_or places i 0))) are (has_get_or places i 0 lt) in
    eqb-true (edge_at g (get_or places i 0)).to u (filter_has (λ k. (edge_at g k).to == u) (places_of g) (get_or places i 0) listed).1 ∙ same

-- of the edges that enter the node of the arrival at `head` the first so many were looked at
pub record AreEntered (g : Digraph) (P : List Bool) (u first head n : ℕ) (places : List ℕ) (xs ys : List Arrival) : Type 0 where
  pub coming : IsComing g P u first head ys
  pub longer : IsLonger xs ys
  pub seen : (j : ℕ) → j < n → j < length places → IsTrue (present P (get_or places j 0)) → IsBack g P u first ys (edge_at g (get_or places j 0)).from

pub entered_none : (g : Digraph) (P : List Bool) (u first head : ℕ) (places : List ℕ) (xs : List Arrival) → IsComing g P u first head xs → AreEntered g P u first head 0 places xs xs
entered_none g P u first head places xs c = record { coming = c; longer = longer_same xs; seen = λ j lt. absurd (omega arith) }

pub entered_pass : (g : Digraph) (P : List Bool) (u first head n : ℕ) (places : List ℕ) (xs ys : List Arrival) → AreEntered g P u first head n places xs ys
    → (IsTrue (present P (get_or places n 0)) → IsBack g P u first ys (edge_at g (get_or places n 0)).from) → AreEntered g P u first head (n + 1) places xs ys
entered_pass g P u first head n places xs ys e back = record {
  coming = e.coming;
  longer = e.longer;
  seen = λ j lt low here. elim (cases_lt j n) [
    | inl old ↦ e.seen j old low here
    | inr new ↦
        let is : n ≡ j = omega arith in
        subst (λ (i : ℕ). IsBack g P u first ys (edge_at g (get_or places i 0)).from) is (back (subst (λ (i : ℕ). IsTrue (present P (get_or places i 0))) (sym is) here))
  ];
}

-- the start of an edge that is present was reached, which isn't u
pub entered_more : (g : Digraph) (P : List Bool) (u first head n k v : ℕ) (places : List ℕ) (xs ys zs : List Arrival) → AreEntered g P u first head n places xs ys → get_or places n 0 ≡ k → first ≤ head → head < length xs
    → k < length g.edges → IsTrue (present P k) → (edge_at g k).to ≡ (arrival_at xs head).node → v ≡ (edge_at g k).from → v ≢ u
    → zs ≡ arrived ys (record { node = v; place = k; before = head; stamp = first }) → AreEntered g P u first head (n + 1) places xs zs
entered_more g P u first head n k v places xs ys zs e at from low known here to is other new = subst (λ (ws : List Arrival). AreEntered g P u first head (n + 1) places xs ws) (sym new) (elim (cases_Bool (is_reached ys v)) [
  | inl there ↦ rw there (entered_pass g P u first head n places xs ys e (λ _. back ys e.coming there))
  | inr none ↦ rw none (
      let pushed = coming_push g P u first head ys a e.coming (omega (arith, more)) (omega (arith, more)) refl other from (omega (arith, more)) known here (sym is) (to ∙ ap (λ (x : Arrival). x.node) (sym (e.longer.same head low))) in
      let grown = longer_push ys ys a (longer_same ys) in
      entered_pass g P u first head n places xs (ys ++ a ∷ []) (record {
        coming = pushed;
        longer = longer_push xs ys a e.longer;
        seen = λ j lt below on. back_longer g P u first ys (ys ++ a ∷ []) (edge_at g (get_or places j 0)).from grown (e.seen j lt below on);
      }) (λ _. back (ys ++ a ∷ []) pushed (reached_new ys a)))
])
  where
    a : Arrival
    a = record { node = v; place = k; before = head; stamp = first }

    more : length xs ≤ length ys
    more = e.longer.len

    back : (ws : List Arrival) → IsComing g P u first head ws → IsTrue (is_reached ws v) → IsBack g P u first ws (edge_at g (get_or places n 0)).from
    back ws c there =
        let r = reached_index ws v there in
        subst (λ (w : ℕ). IsBack g P u first ws w) (is ∙ ap (λ (j : ℕ). (edge_at g j).from) (sym at)) (elim (cases_lt r.0 first) [
          | inl old ↦ elim (cases_eq r.0 0) [
            | inl zero-th ↦ absurd (other (sym r.2 ∙ (ap (λ (j : ℕ). (arrival_at ws j).node) zero-th ∙ c.source)))
            | inr later ↦ inr (subst (λ (w : ℕ). IsOut g P u w) r.2 (c.out r.0 (omega arith) old))
          ]
          | inr late ↦ inl (r.0, late, r.1, r.2)
        ])

-- all of them were
pub entered_all : (g : Digraph) (P : List Bool) (u first head n : ℕ) (places : List ℕ) (xs ys : List Arrival) → AreEntered g P u first head n places xs ys → length places ≤ n → head < length xs → places ≡ entering g (arrival_at xs head).node
    → IsComing g P u first (head + 1) ys
entered_all g P u first head n places xs ys e all low are = record {
  begun = e.coming.begun;
  held = e.coming.held;
  source = e.coming.source;
  out = e.coming.out;
  below = e.coming.below;
  stamps = e.coming.stamps;
  other = e.coming.other;
  onward = e.coming.onward;
  closed = λ i k le less lt known here to. elim (cases_lt i head) [
    | inl old ↦ e.coming.closed i k le old lt known here to
    | inr new ↦
        let is : head ≡ i = omega arith in
        let node : (edge_at g k).to ≡ (arrival_at xs head).node = to ∙ (ap (λ (j : ℕ). (arrival_at ys j).node) (sym is) ∙ ap (λ (x : Arrival). x.node) (e.longer.same head low)) in
        let at = index_of places k (subst (λ (js : List ℕ). IsTrue (has js k)) (sym are) (at_places (λ f. f.to) g (arrival_at xs head).node k known node)) in
        subst (λ (j : ℕ). IsBack g P u first ys (edge_at g j).from) at.2
        (e.seen at.0 (let lt = at.1 in omega arith) at.1 (subst (λ (j : ℕ). IsTrue (present P j)) (sym at.2) here))
  ];
}

-- ---- trees that grow

pub extended : (g : Digraph) (k before : ℕ) (old new : Reached) → k < length g.edges → before < length old.arrivals → (arrival_at old.arrivals before).node ≡ (edge_at g k).from → All (λ (a : Arrival). a.stamp ≤ 0) old.arrivals
    → new ≡ record old { arrivals = arrived old.arrivals (arrival_by g k before 0) } → IsExtended g k old new
extended g k before old new known low from stamps is = subst (λ (r : Reached). IsExtended g k old r) (sym is) (elim (cases_Bool (is_reached old.arrivals (edge_at g k).to)) [
  | inl there ↦ rw there (record { nodes = refl; source = refl; stamps = stamps; tree = λ P u here t. t; more = λ v h. h; there = there })
  | inr none ↦ rw none (record {
    nodes = refl;
    source = refl;
    stamps = All-push (λ (a : Arrival). a.stamp ≤ 0) old.arrivals (arrival_by g k before 0) stamps (omega arith);
    tree = λ P u here t. tree_push g P u old.arrivals (arrival_by g k before 0) t (record { before = low; known = known; present = here; from = sym from; to = refl });
    more = λ v h. reached_old old.arrivals (arrival_by g k before 0) v h;
    there = reached_new old.arrivals (arrival_by g k before 0);
  })
])

-- at the edge that was read
pub extended_read : (g : Digraph) (k before : ℕ) (e : Edge) (old new : Reached) → k < length g.edges → e ≡ edge_at g k → (before < length old.arrivals) × ((arrival_at old.arrivals before).node ≡ e.from) → All (λ (a : Arrival). a.stamp ≤ 0) old.arrivals
    → new ≡ record old { arrivals = cond (is_reached old.arrivals e.to) old.arrivals (old.arrivals ++ record { node = e.to; place = k; before = before; stamp = 0 } ∷ []) } → IsExtended g k old new
extended_read g k before e old new known read at stamps is =
    let here = subst (λ (x : Edge). (before < length old.arrivals) × ((arrival_at old.arrivals before).node ≡ x.from)) read at in
    extended g k before old new known here.0 here.1 stamps
    (subst (λ (x : Edge). new ≡ record old { arrivals = cond (is_reached old.arrivals x.to) old.arrivals (old.arrivals ++ record { node = x.to; place = k; before = before; stamp = 0 } ∷ []) }) read is)

pub grown_none : (g : Digraph) (P : List Bool) (r : Reached) → All (λ (a : Arrival). a.stamp ≤ 0) r.arrivals → HasGrown g P r r
grown_none g P r stamps = record { nodes = refl; source = refl; stamps = stamps; tree = λ u t. t; more = λ v h. h }

pub grown_by : (g : Digraph) (P : List Bool) (k : ℕ) (old now new : Reached) → HasGrown g P old now → IsTrue (present P k) → IsExtended g k now new → HasGrown g P old new
grown_by g P k old now new h here e = record {
  nodes = e.nodes ∙ h.nodes;
  source = e.source ∙ h.source;
  stamps = e.stamps;
  tree = λ u t. e.tree P u here (h.tree u t);
  more = λ v there. e.more v (h.more v there);
}

-- the way is in the tree from the entry on up to an arrival
pub record IsOnWay (g : Digraph) (P : List Bool) (first at : ℕ) (xs : List Arrival) (old now : Reached) : Type 0 where
  pub grown : HasGrown g P old now
  pub held : first ≤ at
  pub low : at < length xs
  pub here : IsTrue (is_reached now.arrivals (arrival_at xs at).node)

pub way_on : (g : Digraph) (P : List Bool) (u first head at b : ℕ) (xs : List Arrival) (old now new : Reached) → IsComing g P u first head xs → IsOnWay g P first at xs old now → first < at → (arrival_at xs at).before ≡ b
    → IsExtended g (arrival_at xs at).place now new → IsOnWay g P first b xs old new
way_on g P u first head at b xs old now new c w more is e =
    let o = c.onward at more w.low in
    record {
      grown = grown_by g P (arrival_at xs at).place old now new w.grown o.present e;
      held = subst (λ (n : ℕ). first ≤ n) is o.held;
      low = (let low = o.low in let end = w.low in omega (arith, low, end, is));
      here = subst (λ (n : ℕ). IsTrue (is_reached new.arrivals (arrival_at xs n).node)) is (subst (λ (v : ℕ). IsTrue (is_reached new.arrivals v)) o.to e.there);
    }

-- ---- one target after another

-- each of the first i targets is in the tree, or no walk leads to it
pub record AreMended (g : Digraph) (P : List Bool) (u : ℕ) (targets : List ℕ) (i : ℕ) (now : Reached) : Type 0 where
  pub tree : IsTree g P u now.arrivals
  pub told : (j : ℕ) → j < i → j < length targets → IsTrue (is_reached now.arrivals (get_or targets j 0)) ⊎ IsOut g P u (get_or targets j 0)

pub mended_more : (g : Digraph) (P : List Bool) (u : ℕ) (targets : List ℕ) (i : ℕ) (old new : Reached) → AreMended g P u targets i old → HasGrown g P old new → IsTrue (is_reached new.arrivals (get_or targets i 0)) ⊎ IsOut g P u (get_or targets i 0)
    → AreMended g P u targets (i + 1) new
mended_more g P u targets i old new m h told = record {
  tree = h.tree u m.tree;
  told = λ j lt low. elim (cases_lt j i) [
    | inl before ↦ elim (m.told j before low) [
      | inl there ↦ inl (h.more (get_or targets j 0) there)
      | inr out ↦ inr out
    ]
    | inr last ↦ (let is : i ≡ j = omega arith in subst (λ (n : ℕ). IsTrue (is_reached new.arrivals (get_or targets n 0)) ⊎ IsOut g P u (get_or targets n 0)) is told)
  ];
}

pub mended_all : (g : Digraph) (P : List Bool) (u : ℕ) (targets : List ℕ) (i : ℕ) (now : Reached) → AreMended g P u targets i now → length targets ≤ i → IsMendedTree g P u targets now.arrivals
mended_all g P u targets i now m all = record {
  tree = m.tree;
  exact = λ v asked.
      let at = index_of targets v asked in
      let told = subst (λ (w : ℕ). IsTrue (is_reached now.arrivals w) ⊎ IsOut g P u w) at.2 (m.told at.0 (let lt = at.1 in omega arith) at.1) in (
        λ there. reached_walk g P u v now.arrivals m.tree there,
        λ walk. elim told [
          | inl there ↦ there
          | inr out ↦ absurd (out walk.0 walk.1)
        ],
      );
}
