-- Trees of walks, and the ways by which a search adds to them.
use Rattle.std.proofs.Common.{◌≡◌, ℕ, zero, suc, ◌+◌, ◌<◌, ◌≤◌, ◌-◌, ◌⊎◌, Bool, false, List, [], ◌∷◌, ◌++◌, length, get_or, refl, sym, ap, subst, ◌∙◌, inl, inr, arith, length-append, Option, None, Some}
use Rattle.std.specs.Prelude.{IsTrue, All}
use Rattle.std.specs.Option.{is_some}
use Rattle.std.proofs.lemmas.Bool.{cases_lt, cases_eq, cases_Bool, both_ways, false_from_ne_true}
use Rattle.std.proofs.lemmas.List.{get_or_append_left, get_or_push}
use Rattle.std.proofs.lemmas.List.Elements.{All-cons, All-nil, All-push}
use Rattle.mono_graph.specs.Digraph.{Digraph, edge_at, present, has, leaving}
use Rattle.mono_graph.specs.Walks.{is_walk}
use Rattle.mono_dynamic.specs.declared.arrival.Arrival.{Arrival}
use Rattle.mono_dynamic.specs.Arrivals.{no_arrival, arrival_at, at_source, is_reached, IsTree}
use Rattle.mono_dynamic.specs.Reached.{Reached, AreOrdered, IsArrivalOf, IsSpread, AreFollowed}
use Rattle.mono_dynamic.specs.Rows.{alone}
use Rattle.mono_dynamic.specs.SearchTrees.{RestsOn, LeadsOn, AreNeeded, IsSearchTree, IsSearching, IsWay, IsJoined, IsAttached, HasWay}
use Rattle.mono_dynamic.proofs.Lists.{index_of}
use Rattle.mono_dynamic.proofs.Listed.{reached_here, arrival_kept, arrival_new}
use Rattle.mono_dynamic.proofs.Followed.{tree_push, reached_old, reached_new, reached_cases, spread_head}
use Rattle.mono_dynamic.proofs.Exact.{are_reached, reached_walk}
use Rattle.mono_dynamic.proofs.Rows.{tree_alone}

pub source_has : (u : ℕ) (xs : List Arrival) → AreOrdered u xs → IsTrue (is_reached xs u)
source_has u xs o = subst (λ (v : ℕ). IsTrue (is_reached xs v)) (ap (λ (a : Arrival). a.node) o.first) (reached_here xs 0 o.some)

pub has_tells : (xs : List Arrival) (v : ℕ) (r : Option ℕ) → IsArrivalOf xs v r → is_some r ≡ is_reached xs v
has_tells xs v None h = sym h
has_tells xs v (Some i) h = sym (subst (λ (w : ℕ). IsTrue (is_reached xs w)) h.1 (reached_here xs i h.0))

-- ---- the edges on which a tree rests

pub rests_nowhere : (g : Digraph) (P : List Bool) (u : ℕ) (xs : List Arrival) (k v : ℕ) → IsTree g P u xs → v ≡ (edge_at g k).to → is_reached xs v ≡ false → RestsOn xs k → ⊥
rests_nowhere g P u xs k v t to none r =
    let node : (arrival_at xs r.0).node ≡ v = sym (t.led r.0 r.1 r.2).to ∙ (ap (λ (j : ℕ). (edge_at g j).to) r.3 ∙ sym to) in
    both_ways (is_reached xs v) none (subst (λ (w : ℕ). IsTrue (is_reached xs w)) node (reached_here xs r.0 r.2))

-- a tree stays one wherever its edges are present
pub tree_stays : (g : Digraph) (P Q : List Bool) (u : ℕ) (xs : List Arrival) → ((k : ℕ) → RestsOn xs k → IsTrue (present Q k)) → IsTree g P u xs → IsTree g Q u xs
tree_stays g P Q u xs edges t = record {
  some = t.some;
  source = t.source;
  led = λ i pos lt. let l = t.led i pos lt in record {
    before = l.before;
    known = l.known;
    present = edges (arrival_at xs i).place (i, pos, lt, refl);
    from = l.from;
    to = l.to;
  };
}

-- ---- a search

pub searching_start : (g : Digraph) (P : List Bool) (u : ℕ) → IsSearching g P u 0 (alone g.nodes u)
searching_start g P u = record {
  nodes = refl;
  source = refl;
  stamps = All-cons (λ (a : Arrival). a.stamp ≤ 0) (at_source u) [] (omega arith) (All-nil (λ (a : Arrival). a.stamp ≤ 0));
  held = omega arith;
  tree = tree_alone g P u;
  spread = record { each = λ k lt here from. inl (inr from) };
}

pub searching_more : (g : Digraph) (P : List Bool) (u head v : ℕ) (ks : List ℕ) (r new : Reached) → IsSearching g P u head r → head < length r.arrivals → v ≡ (arrival_at r.arrivals head).node → ks ≡ leaving g v
    → AreFollowed g P 0 ks [] r new → IsSearching g P u (head + 1) new
searching_more g P u head v ks r new s lt node are f = record {
  nodes = f.nodes ∙ s.nodes;
  source = f.source ∙ s.source;
  stamps = f.stamps;
  held = let grows = f.grows in omega arith;
  tree = f.tree u s.tree;
  spread = f.spread (head + 1) (omega arith)
      (subst (λ (js : List ℕ). IsSpread g P r.arrivals (head + 1) js) (sym (are ∙ ap (λ (w : ℕ). leaving g w) node)) (spread_head g P r.arrivals head lt s.spread));
}

-- ---- a way back

-- the way leads back to the arrival at a position, and the tree has the nodes of none before it
pub record IsGoing (xs tree : List Arrival) (last at : ℕ) (way : List ℕ) : Type 0 where
  pub back : IsWay xs last way
  pub here : get_or way (length way - 1) 0 ≡ at
  pub new : (i : ℕ) → suc i < length way → is_reached tree (arrival_at xs (get_or way i 0)).node ≡ false
  pub few : length way + at ≤ suc last

pub going_one : (xs tree : List Arrival) (last : ℕ) → last < length xs → IsGoing xs tree last last (last ∷ [])
going_one xs tree last lt = record {
  back = record {
    some = omega arith;
    first = refl;
    known = λ i low. (let e : 0 ≡ i = omega arith in subst (λ (j : ℕ). get_or (last ∷ []) j 0 < length xs) e lt);
    led = λ i low. absurd (omega arith);
  };
  here = refl;
  new = λ i low. absurd (omega arith);
  few = omega arith;
}

way_push : (xs : List Arrival) (last at b : ℕ) (way : List ℕ) → IsWay xs last way → get_or way (length way - 1) 0 ≡ at → (arrival_at xs at).before ≡ b → b < at → b < length xs → IsWay xs last (way ++ b ∷ [])
way_push xs last at b way w here before less low = record {
  some = omega (arith, length-append way (b ∷ []));
  first = get_or_append_left way (b ∷ []) 0 0 w.some ∙ w.first;
  known = λ i lt. elim (cases_lt i (length way)) [
    | inl old ↦ subst (λ (p : ℕ). p < length xs) (sym (get_or_append_left way (b ∷ []) 0 i old)) (w.known i old)
    | inr new ↦ subst (λ (p : ℕ). p < length xs) (sym (get_or_push way b 0 i (omega (arith, lt, length-append way (b ∷ []))))) low
  ];
  led = λ i lt.
      let inside : i < length way = omega (arith, lt, length-append way (b ∷ [])) in
      subst (λ (p : ℕ). (get_or (way ++ b ∷ []) (suc i) 0 < p) × ((arrival_at xs p).before ≡ get_or (way ++ b ∷ []) (suc i) 0)) (sym (get_or_append_left way (b ∷ []) 0 i inside))
      (elim (cases_lt (suc i) (length way)) [
        | inl old ↦ subst (λ (q : ℕ). (q < get_or way i 0) × ((arrival_at xs (get_or way i 0)).before ≡ q)) (sym (get_or_append_left way (b ∷ []) 0 (suc i) old)) (w.led i old)
        | inr new ↦
            let at-end : i ≡ length way - 1 = omega arith in
            let is : get_or way i 0 ≡ at = ap (λ (j : ℕ). get_or way j 0) at-end ∙ here in
            subst (λ (q : ℕ). (q < get_or way i 0) × ((arrival_at xs (get_or way i 0)).before ≡ q)) (sym (get_or_push way b 0 (suc i) (omega arith)))
            (omega (arith, is, less), ap (λ (p : ℕ). (arrival_at xs p).before) is ∙ before)
      ]);
}

pub going_more : (xs tree : List Arrival) (last at b : ℕ) (way : List ℕ) → IsGoing xs tree last at way → (arrival_at xs at).before ≡ b → b < at → at < length xs → is_reached tree (arrival_at xs at).node ≡ false
    → IsGoing xs tree last b (way ++ b ∷ [])
going_more xs tree last at b way w before less low none = record {
  back = way_push xs last at b way w.back w.here before less (omega arith);
  here = ap (λ (j : ℕ). get_or (way ++ b ∷ []) j 0) count ∙ get_or_push way b 0 (length way) refl;
  new = λ i lt. elim (cases_lt (suc i) (length way)) [
    | inl old ↦ subst (λ (p : ℕ). is_reached tree (arrival_at xs p).node ≡ false) (sym (get_or_append_left way (b ∷ []) 0 i (omega arith))) (w.new i old)
    | inr new ↦
        let inside : suc i ≡ length way = omega (arith, lt, new, length-append way (b ∷ [])) in
        let at-end : i ≡ length way - 1 = omega arith in
        subst (λ (p : ℕ). is_reached tree (arrival_at xs p).node ≡ false)
        (sym (get_or_append_left way (b ∷ []) 0 i (omega arith) ∙ (ap (λ (j : ℕ). get_or way j 0) at-end ∙ w.here))) none
  ];
  few = let few = w.few in omega (arith, length-append way (b ∷ []));
}
  where
    count : length (way ++ b ∷ []) - 1 ≡ length way
    count = omega (arith, length-append way (b ∷ []))

pub joined : (xs tree : List Arrival) (last at : ℕ) (way : List ℕ) → IsGoing xs tree last at way → IsTrue (is_reached tree (arrival_at xs at).node) → IsJoined xs tree way
joined xs tree last at way w h = record {
  here = subst (λ (p : ℕ). IsTrue (is_reached tree (arrival_at xs p).node)) (sym w.here) h;
  new = w.new;
}

-- an arrival at a node that the tree lacks isn't the source's
pub behind : (tree : List Arrival) (u v at : ℕ) → IsTrue (is_reached tree u) → is_reached tree v ≡ false → (at ≡ 0 → v ≡ u) → 0 < at
behind tree u v at there none first = elim (cases_eq at 0) [
  | inl e ↦ absurd (both_ways (is_reached tree v) none (subst (λ (w : ℕ). IsTrue (is_reached tree w)) (sym (first e)) there))
  | inr ne ↦ omega arith
]

-- ---- the nodes of a way, one after another

way_falls : (xs : List Arrival) (last : ℕ) (way : List ℕ) → IsWay xs last way → (i j : ℕ) → i < j → j < length way → get_or way j 0 < get_or way i 0
way_falls xs last way w i zero lt low = absurd (omega arith)
way_falls xs last way w i (suc j) lt low = elim (cases_lt i j) [
  | inl less ↦ (let a = way_falls xs last way w i j less (omega arith) in let b = (w.led j low).0 in omega arith)
  | inr le ↦
      let e : j ≡ i = omega arith in
      subst (λ (m : ℕ). get_or way (suc j) 0 < get_or way m 0) e (w.led j low).0
]

-- the way is in the tree down to a position of its own
pub record IsAdding (xs : List Arrival) (way : List ℕ) (left : ℕ) (old new : Reached) : Type 0 where
  pub nodes : new.nodes ≡ old.nodes
  pub source : new.source ≡ old.source
  pub stamps : All (λ a. a.stamp ≤ 0) new.arrivals
  pub tree : (g : Digraph) (P : List Bool) (u : ℕ) → IsTree g P u xs → IsTree g P u old.arrivals → IsTree g P u new.arrivals
  pub more : (w : ℕ) → IsTrue (is_reached old.arrivals w) → IsTrue (is_reached new.arrivals w)
  pub held : left < length way
  pub here : IsTrue (is_reached new.arrivals (arrival_at xs (get_or way left 0)).node)
  pub fresh : (i : ℕ) → i < left → is_reached new.arrivals (arrival_at xs (get_or way i 0)).node ≡ false
  pub needed : (targets : List ℕ) → AreNeeded targets old.arrivals → (i : ℕ) → 0 < i → i < length new.arrivals
      → (IsTrue (has targets (arrival_at new.arrivals i).node) ⊎ LeadsOn new.arrivals i) ⊎ ((arrival_at new.arrivals i).node ≡ (arrival_at xs (get_or way left 0)).node)

pub adding_start : (xs : List Arrival) (way : List ℕ) (left last : ℕ) (r : Reached) → IsWay xs last way → IsJoined xs r.arrivals way → All (λ (a : Arrival). a.stamp ≤ 0) r.arrivals → left ≡ length way - 1 → IsAdding xs way left r r
adding_start xs way left last r w j stamps e = record {
  nodes = refl;
  source = refl;
  stamps = stamps;
  tree = λ g P u t h. h;
  more = λ w h. h;
  held = let some = w.some in omega arith;
  here = subst (λ (i : ℕ). IsTrue (is_reached r.arrivals (arrival_at xs (get_or way i 0)).node)) (sym e) j.here;
  fresh = λ i lt. j.new i (omega arith);
  needed = λ targets n i pos lt. inl (n.each i pos lt);
}

-- what is attached to the tree
abbrev pub attached : List Arrival → ℕ → ℕ → Arrival
attached xs p at = record { node = (arrival_at xs p).node; place = (arrival_at xs p).place; before = at; stamp = 0 }

attached_tree : (xs : List Arrival) (p : ℕ) (old new : Reached) → IsAttached xs p old new → 0 < p → p < length xs → (g : Digraph) (P : List Bool) (u : ℕ) → IsTree g P u xs → IsTree g P u old.arrivals → IsTree g P u new.arrivals
attached_tree xs p old new h pos lt g P u t o =
    let l = t.led p pos lt in
    subst (λ (r : Reached). IsTree g P u r.arrivals) (sym h.is)
    (tree_push g P u old.arrivals (attached xs p h.at) o (record { before = h.held; known = l.known; present = l.present; from = l.from ∙ sym h.from; to = l.to }))

attached_needed : (xs : List Arrival) (p q : ℕ) (old new : Reached) (targets : List ℕ) → IsAttached xs p old new → (arrival_at xs p).before ≡ q
    → ((i : ℕ) → 0 < i → i < length old.arrivals → (IsTrue (has targets (arrival_at old.arrivals i).node) ⊎ LeadsOn old.arrivals i) ⊎ ((arrival_at old.arrivals i).node ≡ (arrival_at xs q).node))
    → (i : ℕ) → 0 < i → i < length new.arrivals → (IsTrue (has targets (arrival_at new.arrivals i).node) ⊎ LeadsOn new.arrivals i) ⊎ ((arrival_at new.arrivals i).node ≡ (arrival_at xs p).node)
attached_needed xs p q old new targets h before n = subst (λ (r : Reached). (i : ℕ) → 0 < i → i < length r.arrivals → (IsTrue (has targets (arrival_at r.arrivals i).node) ⊎ LeadsOn r.arrivals i) ⊎ ((arrival_at r.arrivals i).node ≡ (arrival_at xs p).node)) (sym h.is) each
  where
    a : Arrival
    a = attached xs p h.at

    ys : List Arrival
    ys = old.arrivals ++ a ∷ []

    more : length ys ≡ suc (length old.arrivals)
    more = omega (arith, length-append old.arrivals (a ∷ []))

    leads : (i : ℕ) → LeadsOn old.arrivals i → LeadsOn ys i
    leads i l = (l.0, l.1, (let lt = l.2 in omega (arith, more)), ap (λ (x : Arrival). x.before) (arrival_kept old.arrivals a l.0 l.2) ∙ l.3)

    each : (i : ℕ) → 0 < i → i < length ys → (IsTrue (has targets (arrival_at ys i).node) ⊎ LeadsOn ys i) ⊎ ((arrival_at ys i).node ≡ (arrival_at xs p).node)
    each i pos lt = elim (cases_lt i (length old.arrivals)) [
      | inl low ↦
          subst (λ (x : Arrival). (IsTrue (has targets x.node) ⊎ LeadsOn ys i) ⊎ (x.node ≡ (arrival_at xs p).node)) (sym (arrival_kept old.arrivals a i low))
          (elim (n i pos low) [
            | inl done ↦ elim done [
              | inl asked ↦ inl (inl asked)
              | inr l ↦ inl (inr (leads i l))
            ]
            | inr is ↦
                let here : h.at ≡ i = h.alone i low (is ∙ ap (λ (j : ℕ). (arrival_at xs j).node) (sym before)) in
                inl (inr (length old.arrivals, (let held = h.held in omega arith), omega (arith, more), ap (λ (x : Arrival). x.before) (arrival_new old.arrivals a) ∙ here))
          ])
      | inr new-one ↦
          let e : length old.arrivals ≡ i = omega (arith, lt, new-one, more) in
          inr (ap (λ (x : Arrival). x.node) (get_or_push old.arrivals a no_arrival i e))
    ]

pub adding_more : (xs : List Arrival) (way : List ℕ) (left last : ℕ) (old now new : Reached) → IsWay xs last way → IsAdding xs way (suc left) old now → IsAttached xs (get_or way left 0) now new → IsAdding xs way left old new
adding_more xs way left last old now new w d h =
    let low : suc left < length way = d.held in
    let led = w.led left low in
    let p : ℕ = get_or way left 0 in
    let pos : 0 < p = (let less = led.0 in omega arith) in
    let lt : p < length xs = w.known left (omega arith) in
    record {
      nodes = ap (λ (r : Reached). r.nodes) h.is ∙ d.nodes;
      source = ap (λ (r : Reached). r.source) h.is ∙ d.source;
      stamps = subst (λ (r : Reached). All (λ (a : Arrival). a.stamp ≤ 0) r.arrivals) (sym h.is) (All-push (λ (a : Arrival). a.stamp ≤ 0) now.arrivals (attached xs p h.at) d.stamps (omega arith));
      tree = λ g P u t o. attached_tree xs p now new h pos lt g P u t (d.tree g P u t o);
      more = λ v there. subst (λ (r : Reached). IsTrue (is_reached r.arrivals v)) (sym h.is) (reached_old now.arrivals (attached xs p h.at) v (d.more v there));
      held = omega arith;
      here = subst (λ (r : Reached). IsTrue (is_reached r.arrivals (arrival_at xs p).node)) (sym h.is) (reached_new now.arrivals (attached xs p h.at));
      fresh = λ i less. false_from_ne_true (is_reached new.arrivals (arrival_at xs (get_or way i 0)).node) (λ there.
          elim (reached_cases now.arrivals (attached xs p h.at) (arrival_at xs (get_or way i 0)).node (subst (λ (r : Reached). IsTrue (is_reached r.arrivals (arrival_at xs (get_or way i 0)).node)) h.is there)) [
            | inl before ↦ both_ways (is_reached now.arrivals (arrival_at xs (get_or way i 0)).node) (d.fresh i (omega arith)) before
            | inr same ↦
                let e : p ≡ get_or way i 0 = h.only (get_or way i 0) (w.known i (omega arith)) (sym same) in
                let falls : p < get_or way i 0 = way_falls xs last way w i left less (omega arith) in
                absurd (omega arith)
          ]);
      needed = λ targets n. attached_needed xs p (get_or way (suc left) 0) now new targets h led.1 (d.needed targets n);
    }

pub added : (xs : List Arrival) (way : List ℕ) (left : ℕ) (old new : Reached) → left ≤ 0 → IsAdding xs way left old new → HasWay xs (arrival_at xs (get_or way 0 0)).node old new
added xs way left old new none d =
    let e : left ≡ 0 = omega arith in
    record {
      nodes = d.nodes;
      source = d.source;
      stamps = d.stamps;
      tree = d.tree;
      more = d.more;
      there = λ _. subst (λ (i : ℕ). IsTrue (is_reached new.arrivals (arrival_at xs (get_or way i 0)).node)) e d.here;
      needed = λ targets asked n. record {
        each = λ i pos lt. elim (d.needed targets n i pos lt) [
          | inl done ↦ done
          | inr is ↦ inl (subst (λ (v : ℕ). IsTrue (has targets v)) (sym (is ∙ ap (λ (j : ℕ). (arrival_at xs (get_or way j 0)).node) e)) asked)
        ];
      };
    }

pub no_way : (xs : List Arrival) (v : ℕ) (r : Reached) → All (λ (a : Arrival). a.stamp ≤ 0) r.arrivals → is_reached xs v ≡ false → HasWay xs v r r
no_way xs v r stamps none = record {
  nodes = refl;
  source = refl;
  stamps = stamps;
  tree = λ g P u t h. h;
  more = λ w h. h;
  there = λ h. absurd (both_ways (is_reached xs v) none h);
  needed = λ targets asked n. n;
}

-- ---- one target after another

pub record AreSearched (g : Digraph) (P : List Bool) (u : ℕ) (targets : List ℕ) (i followed : ℕ) (found now : Reached) : Type 0 where
  pub searching : IsSearching g P u followed found
  pub nodes : now.nodes ≡ g.nodes
  pub source : now.source ≡ u
  pub stamps : All (λ a. a.stamp ≤ 0) now.arrivals
  pub tree : IsTree g P u now.arrivals
  pub exact : (j : ℕ) → j < i → j < length targets → IsTrue (is_reached now.arrivals (get_or targets j 0)) ⊎ ((ks : List ℕ) → IsTrue (is_walk g P u (get_or targets j 0) ks) → ⊥)
  pub needed : AreNeeded targets now.arrivals

pub searched_none : (g : Digraph) (P : List Bool) (u : ℕ) (targets : List ℕ) (found tree : Reached) → found ≡ alone g.nodes u → tree ≡ alone g.nodes u → AreSearched g P u targets 0 0 found tree
searched_none g P u targets found tree f t =
    let start = searching_start g P u in
    record {
      searching = subst (λ (r : Reached). IsSearching g P u 0 r) (sym f) start;
      nodes = ap (λ (r : Reached). r.nodes) t;
      source = ap (λ (r : Reached). r.source) t;
      stamps = subst (λ (r : Reached). All (λ (a : Arrival). a.stamp ≤ 0) r.arrivals) (sym t) start.stamps;
      tree = subst (λ (r : Reached). IsTree g P u r.arrivals) (sym t) start.tree;
      exact = λ j lt. absurd (omega arith);
      needed = subst (λ (r : Reached). AreNeeded targets r.arrivals) (sym t) (record { each = λ i pos lt. absurd (omega arith) });
    }

pub searched_more : (g : Digraph) (P : List Bool) (u : ℕ) (targets : List ℕ) (i followed head : ℕ) (found tree more new : Reached) → AreSearched g P u targets i followed found tree → i < length targets
    → IsSearching g P u head more → IsTrue (is_reached more.arrivals (get_or targets i 0)) ⊎ (length more.arrivals ≤ head) → HasWay more.arrivals (get_or targets i 0) tree new → IsTrue (has targets (get_or targets i 0))
    → AreSearched g P u targets (i + 1) head more new
searched_more g P u targets i followed head found tree more new s lt searching over h asked = record {
  searching = searching;
  nodes = h.nodes ∙ s.nodes;
  source = h.source ∙ s.source;
  stamps = h.stamps;
  tree = h.tree g P u searching.tree s.tree;
  exact = λ j low inside. elim (cases_eq j i) [
    | inl here ↦ subst (λ (m : ℕ). IsTrue (is_reached new.arrivals (get_or targets m 0)) ⊎ ((ks : List ℕ) → IsTrue (is_walk g P u (get_or targets m 0) ks) → ⊥)) (sym here) last
    | inr other ↦ elim (s.exact j (omega arith) inside) [
      | inl there ↦ inl (h.more (get_or targets j 0) there)
      | inr none ↦ inr none
    ]
  ];
  needed = h.needed targets asked s.needed;
}
  where
    last : IsTrue (is_reached new.arrivals (get_or targets i 0)) ⊎ ((ks : List ℕ) → IsTrue (is_walk g P u (get_or targets i 0) ks) → ⊥)
    last = elim over [
      | inl there ↦ inl (h.there there)
      | inr all ↦ elim (cases_Bool (is_reached more.arrivals (get_or targets i 0))) [
        | inl there ↦ inl (h.there there)
        | inr none ↦ inr (λ ks w. both_ways (is_reached more.arrivals (get_or targets i 0)) none (((are_reached g P u head more.arrivals searching.tree all searching.spread).exact (get_or targets i 0)).1 (ks, w)))
      ]
    ]

pub searched_all : (g : Digraph) (P : List Bool) (u : ℕ) (targets : List ℕ) (i followed : ℕ) (found tree : Reached) → length targets ≤ i → AreSearched g P u targets i followed found tree → IsSearchTree g P u targets tree.arrivals
searched_all g P u targets i followed found tree le s = record {
  tree = s.tree;
  exact = λ v asked.
      let at = index_of targets v asked in
      let told = subst (λ (w : ℕ). IsTrue (is_reached tree.arrivals w) ⊎ ((ks : List ℕ) → IsTrue (is_walk g P u w ks) → ⊥)) at.2 (s.exact at.0 (let lt = at.1 in omega arith) at.1) in (
        λ there. reached_walk g P u v tree.arrivals s.tree there,
        λ walk. elim told [
          | inl there ↦ there
          | inr none ↦ absurd (none walk.0 walk.1)
        ],
      );
  needed = s.needed;
}
