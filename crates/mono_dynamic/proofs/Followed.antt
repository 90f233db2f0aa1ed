-- Edges that are followed one after another.
use Rattle.std.proofs.Common.{◌≡◌, ℕ, ◌+◌, ◌<◌, ◌≤◌, Bool, false, cond, ◌⊎◌, List, [], ◌∷◌, ◌++◌, length, drop, refl, sym, ap, subst, ◌∙◌, inl, inr, arith, length-append}
use Rattle.std.specs.Prelude.{IsTrue, All}
use Rattle.std.proofs.lemmas.Bool.{cases_lt, cases_Bool, both_ways}
use Rattle.std.proofs.lemmas.List.{get_or_push, drop_more, drop-append-le}
use Rattle.std.proofs.lemmas.List.Elements.{All-push}
use Rattle.mono_graph.specs.Digraph.{Digraph, edge_at, present, has, leaving}
use Rattle.mono_graph.proofs.Membership.{has_cons, has_append_cases, has_append_left, has_append_right, has_here, at_places}
use Rattle.mono_graph.proofs.Prefixes.{has_old, has_new}
use Rattle.mono_graph.specs.declared.edge.Edge.{Edge}
use Rattle.mono_dynamic.specs.declared.arrival.Arrival.{Arrival}
use Rattle.mono_dynamic.specs.Arrivals.{no_arrival, arrival_at, reached, is_reached, within, IsLed, IsTree}
use Rattle.mono_dynamic.specs.Reached.{Reached, IsSpread, AreFollowed}
use Rattle.mono_dynamic.proofs.Listed.{reached_push, node_at, count_of, arrival_kept, within_push}

led_kept : (g : Digraph) (P : List Bool) (xs : List Arrival) (a b : Arrival) (i : ℕ) → i ≤ length xs → IsLed g P xs b i → IsLed g P (xs ++ a ∷ []) b i
led_kept g P xs a b i le l = record {
  before = l.before;
  known = l.known;
  present = l.present;
  from = l.from ∙ ap (λ (x : Arrival). x.node) (sym (arrival_kept xs a b.before (let low = l.before in omega arith)));
  to = l.to;
}

pub tree_push : (g : Digraph) (P : List Bool) (u : ℕ) (xs : List Arrival) (a : Arrival) → IsTree g P u xs → IsLed g P xs a (length xs) → IsTree g P u (xs ++ a ∷ [])
tree_push g P u xs a t l = record {
  some = let some = t.some in omega (arith, length-append xs (a ∷ []));
  source = ap (λ (x : Arrival). x.node) (arrival_kept xs a 0 t.some) ∙ t.source;
  led = λ i pos lt. elim (cases_lt i (length xs)) [
    | inl old ↦ subst (λ (x : Arrival). IsLed g P (xs ++ a ∷ []) x i) (sym (arrival_kept xs a i old)) (led_kept g P xs a (arrival_at xs i) i (omega arith) (t.led i pos old))
    | inr new ↦
        let e : length xs ≡ i = omega (arith, length-append xs (a ∷ [])) in
        subst (λ (x : Arrival). IsLed g P (xs ++ a ∷ []) x i) (sym (get_or_push xs a no_arrival i e))
        (subst (λ (j : ℕ). IsLed g P (xs ++ a ∷ []) a j) e (led_kept g P xs a a (length xs) (omega arith) l))
  ];
}

-- an edge that is looked at leads to a reached node, where it leaves one
pub spread_passed : (g : Digraph) (P : List Bool) (xs : List Arrival) (h k : ℕ) (ks : List ℕ) → IsSpread g P xs h (k ∷ ks)
    → (IsTrue (present P k) → IsTrue (is_reached xs (edge_at g k).from) → IsTrue (is_reached xs (edge_at g k).to)) → IsSpread g P xs h ks
spread_passed g P xs h k ks s ok = record {
  each = λ j lt here from. elim (s.each j lt here from) [
    | inl done ↦ inl done
    | inr due ↦ elim (has_cons k j ks due) [
      | inl e ↦ inl (inl (subst (λ (i : ℕ). IsTrue (is_reached xs (edge_at g i).to)) e
          (ok (subst (λ (i : ℕ). IsTrue (present P i)) (sym e) here) (subst (λ (i : ℕ). IsTrue (is_reached xs (edge_at g i).from)) (sym e) from))))
      | inr there ↦ inr there
    ]
  ];
}

pub reached_old : (xs : List Arrival) (a : Arrival) (v : ℕ) → IsTrue (is_reached xs v) → IsTrue (is_reached (xs ++ a ∷ []) v)
reached_old xs a v h = subst (λ (us : List ℕ). IsTrue (has us v)) (sym (reached_push xs a)) (has_old (reached xs) a.node v h)

pub reached_new : (xs : List Arrival) (a : Arrival) → IsTrue (is_reached (xs ++ a ∷ []) a.node)
reached_new xs a = subst (λ (us : List ℕ). IsTrue (has us a.node)) (sym (reached_push xs a)) (has_new (reached xs) a.node)

pub reached_cases : (xs : List Arrival) (a : Arrival) (v : ℕ) → IsTrue (is_reached (xs ++ a ∷ []) v) → IsTrue (is_reached xs v) ⊎ (a.node ≡ v)
reached_cases xs a v h = elim (has_append_cases (reached xs) (a.node ∷ []) v (subst (λ (us : List ℕ). IsTrue (has us v)) (reached_push xs a) h)) [
  | inl old ↦ inl old
  | inr new ↦ elim (has_cons a.node v [] new) [ inl e ↦ inr e | inr none ↦ absurd cc ]
]

late_push : (xs : List Arrival) (a : Arrival) (h : ℕ) → h ≤ length xs → drop h (reached (xs ++ a ∷ [])) ≡ drop h (reached xs) ++ a.node ∷ []
late_push xs a h le = ap (λ (us : List ℕ). drop h us) (reached_push xs a) ∙ drop-append-le h (reached xs) (a.node ∷ []) (omega (arith, count_of xs))

-- an arrival is added
pub spread_push : (g : Digraph) (P : List Bool) (xs : List Arrival) (a : Arrival) (h : ℕ) (ks : List ℕ) → h ≤ length xs → IsSpread g P xs h ks → IsSpread g P (xs ++ a ∷ []) h ks
spread_push g P xs a h ks le s = record {
  each = λ j lt here from. elim (reached_cases xs a (edge_at g j).from from) [
    | inl old ↦ elim (s.each j lt here old) [
      | inl done ↦ elim done [
        | inl to ↦ inl (inl (reached_old xs a (edge_at g j).to to))
        | inr late ↦ inl (inr (subst (λ (us : List ℕ). IsTrue (has us (edge_at g j).from)) (sym (late_push xs a h le)) (has_append_left (drop h (reached xs)) (a.node ∷ []) (edge_at g j).from late)))
      ]
      | inr due ↦ inr due
    ]
    | inr new ↦ inl (inr (subst (λ (us : List ℕ). IsTrue (has us (edge_at g j).from)) (sym (late_push xs a h le))
        (has_append_right (drop h (reached xs)) (a.node ∷ []) (edge_at g j).from (subst (λ (v : ℕ). IsTrue (has (a.node ∷ []) v)) new (has_here a.node [])))))
  ];
}

-- ---- the edges of a list

pub followed_none : (g : Digraph) (P : List Bool) (stamp : ℕ) (places : List ℕ) (r : Reached) → All (λ (a : Arrival). a.stamp ≤ stamp) r.arrivals → AreFollowed g P stamp places places r r
followed_none g P stamp places r stamps = record {
  nodes = refl;
  source = refl;
  grows = omega arith;
  stamps = stamps;
  earlier = λ m lt. refl;
  tree = λ u t. t;
  spread = λ h le s. s;
}

pub followed_pass : (g : Digraph) (P : List Bool) (stamp : ℕ) (places : List ℕ) (k : ℕ) (ks : List ℕ) (old r : Reached) → AreFollowed g P stamp places (k ∷ ks) old r
    → (IsTrue (present P k) → IsTrue (is_reached r.arrivals (edge_at g k).from) → IsTrue (is_reached r.arrivals (edge_at g k).to)) → AreFollowed g P stamp places ks old r
followed_pass g P stamp places k ks old r f ok = record {
  nodes = f.nodes;
  source = f.source;
  grows = f.grows;
  stamps = f.stamps;
  earlier = f.earlier;
  tree = f.tree;
  spread = λ h le s. spread_passed g P r.arrivals h k ks (f.spread h le s) ok;
}

-- the arrival by the edge at a place
abbrev pub arrival_by : Digraph → ℕ → ℕ → ℕ → Arrival
arrival_by g k before stamp = record { node = (edge_at g k).to; place = k; before = before; stamp = stamp }

stamps_push : (stamp : ℕ) (xs : List Arrival) (a : Arrival) → a.stamp ≤ stamp → All (λ (b : Arrival). b.stamp ≤ stamp) xs → All (λ (b : Arrival). b.stamp ≤ stamp) (xs ++ a ∷ [])
stamps_push stamp xs a le h = All-push (λ (b : Arrival). b.stamp ≤ stamp) xs a h le

pub followed_new : (g : Digraph) (P : List Bool) (stamp : ℕ) (places : List ℕ) (k before : ℕ) (ks : List ℕ) (old r : Reached) → AreFollowed g P stamp places (k ∷ ks) old r
    → k < length g.edges → IsTrue (present P k) → before < length r.arrivals → (arrival_at r.arrivals before).node ≡ (edge_at g k).from
    → AreFollowed g P stamp places ks old (record r { arrivals = r.arrivals ++ arrival_by g k before stamp ∷ [] })
followed_new g P stamp places k before ks old r f lt here low from =
    let a : Arrival = arrival_by g k before stamp in
    record {
      nodes = f.nodes;
      source = f.source;
      grows = let grows = f.grows in omega (arith, length-append r.arrivals (a ∷ []));
      stamps = stamps_push stamp r.arrivals a (omega arith) f.stamps;
      earlier = λ m less. within_push m r.arrivals a less ∙ f.earlier m less;
      tree = λ u t. tree_push g P u r.arrivals a (f.tree u t) (record { before = low; known = lt; present = here; from = sym from; to = refl });
      spread = λ h le s. spread_passed g P (r.arrivals ++ a ∷ []) h k ks
          (spread_push g P r.arrivals a h (k ∷ ks) (let grows = f.grows in omega arith) (f.spread h le s))
          (λ _ _. reached_new r.arrivals a);
    }

-- the edge at a place leaves a reached node
pub followed_edge : (g : Digraph) (P : List Bool) (stamp : ℕ) (places : List ℕ) (k before : ℕ) (ks : List ℕ) (old r new : Reached) → AreFollowed g P stamp places (k ∷ ks) old r
    → k < length g.edges → IsTrue (present P k) → (before < length r.arrivals) × ((arrival_at r.arrivals before).node ≡ (edge_at g k).from)
    → new ≡ record r { arrivals = cond (is_reached r.arrivals (edge_at g k).to) r.arrivals (r.arrivals ++ arrival_by g k before stamp ∷ []) }
    → AreFollowed g P stamp places ks old new
followed_edge g P stamp places k before ks old r new f lt here at is =
    subst (λ (q : Reached). AreFollowed g P stamp places ks old q) (sym is) (elim (cases_Bool (is_reached r.arrivals (edge_at g k).to)) [
      | inl there ↦ rw there (followed_pass g P stamp places k ks old r f (λ _ _. there))
      | inr not ↦ rw not (followed_new g P stamp places k before ks old r f lt here at.0 at.1)
    ])

-- the same at the edge that was read
pub followed_read : (g : Digraph) (P : List Bool) (stamp : ℕ) (places : List ℕ) (k before : ℕ) (ks : List ℕ) (e : Edge) (old r new : Reached) → AreFollowed g P stamp places (k ∷ ks) old r
    → k < length g.edges → e ≡ edge_at g k → IsTrue (present P k) → (before < length r.arrivals) × ((arrival_at r.arrivals before).node ≡ e.from)
    → new ≡ record r { arrivals = cond (is_reached r.arrivals e.to) r.arrivals (r.arrivals ++ record { node = e.to; place = k; before = before; stamp = stamp } ∷ []) }
    → AreFollowed g P stamp places ks old new
followed_read g P stamp places k before ks e old r new f lt read here at is =
    followed_edge g P stamp places k before ks old r new f lt here
    (subst (λ (x : Edge). (before < length r.arrivals) × ((arrival_at r.arrivals before).node ≡ x.from)) read at)
    (subst (λ (x : Edge). new ≡ record r { arrivals = cond (is_reached r.arrivals x.to) r.arrivals (r.arrivals ++ record { node = x.to; place = k; before = before; stamp = stamp } ∷ []) }) read is)

pub followed_unread : (g : Digraph) (P : List Bool) (stamp : ℕ) (places : List ℕ) (k : ℕ) (ks : List ℕ) (e : Edge) (old r new : Reached) → AreFollowed g P stamp places (k ∷ ks) old r
    → e ≡ edge_at g k → is_reached r.arrivals e.from ≡ false → new ≡ r → AreFollowed g P stamp places ks old new
followed_unread g P stamp places k ks e old r new f read none same =
    subst (λ (q : Reached). AreFollowed g P stamp places ks old q) (sym same)
    (followed_pass g P stamp places k ks old r f (λ _ from. absurd (both_ways (is_reached r.arrivals (edge_at g k).from) (subst (λ (x : Edge). is_reached r.arrivals x.from ≡ false) read none) from)))

-- ---- the edges of one arrival after another

pub record IsGrowing (g : Digraph) (P : List Bool) (stamp : ℕ) (places : List ℕ) (old new : Reached) (head : ℕ) : Type 0 where
  pub nodes : new.nodes ≡ old.nodes
  pub source : new.source ≡ old.source
  pub stamps : All (λ a. a.stamp ≤ stamp) new.arrivals
  pub earlier : (m : ℕ) → m < stamp → within m new.arrivals ≡ within m old.arrivals
  pub tree : (u : ℕ) → IsTree g P u old.arrivals → IsTree g P u new.arrivals
  pub spread : IsSpread g P old.arrivals (length old.arrivals) places → IsSpread g P new.arrivals head []

pub growing : (g : Digraph) (P : List Bool) (stamp : ℕ) (places : List ℕ) (old new : Reached) (head : ℕ) → head ≡ length old.arrivals → AreFollowed g P stamp places [] old new → IsGrowing g P stamp places old new head
growing g P stamp places old new head at f = record {
  nodes = f.nodes;
  source = f.source;
  stamps = f.stamps;
  earlier = f.earlier;
  tree = f.tree;
  spread = λ s. subst (λ (h : ℕ). IsSpread g P new.arrivals h []) (sym at) (f.spread (length old.arrivals) (omega arith) s);
}

-- the edges of the next arrival are those to look at now
pub spread_head : (g : Digraph) (P : List Bool) (xs : List Arrival) (head : ℕ) → head < length xs → IsSpread g P xs head [] → IsSpread g P xs (head + 1) (leaving g (arrival_at xs head).node)
spread_head g P xs head lt s =
    let front : drop head (reached xs) ≡ (arrival_at xs head).node ∷ drop (head + 1) (reached xs) =
    drop_more (reached xs) head 0 (omega (arith, count_of xs)) ∙ ap (λ (v : ℕ). v ∷ drop (head + 1) (reached xs)) (node_at xs head lt)
    in
    record {
      each = λ j below here from. elim (s.each j below here from) [
        | inl done ↦ elim done [
          | inl to ↦ inl (inl to)
          | inr late ↦ elim (has_cons (arrival_at xs head).node (edge_at g j).from (drop (head + 1) (reached xs)) (subst (λ (us : List ℕ). IsTrue (has us (edge_at g j).from)) front late)) [
            | inl e ↦ inr (at_places (λ f. f.from) g (arrival_at xs head).node j below (sym e))
            | inr later ↦ inl (inr later)
          ]
        ]
        | inr none ↦ absurd cc
      ];
    }

pub growing_more : (g : Digraph) (P : List Bool) (stamp : ℕ) (places : List ℕ) (old now new : Reached) (head v : ℕ) (ks : List ℕ) → IsGrowing g P stamp places old now head → head < length now.arrivals
    → v ≡ (arrival_at now.arrivals head).node → ks ≡ leaving g v → AreFollowed g P stamp ks [] now new → IsGrowing g P stamp places old new (head + 1)
growing_more g P stamp places old now new head v ks w lt node are f = record {
  nodes = f.nodes ∙ w.nodes;
  source = f.source ∙ w.source;
  stamps = f.stamps;
  earlier = λ m less. f.earlier m less ∙ w.earlier m less;
  tree = λ u t. f.tree u (w.tree u t);
  spread = λ s. f.spread (head + 1) (omega arith)
      (subst (λ (js : List ℕ). IsSpread g P now.arrivals (head + 1) js) (sym (are ∙ ap (λ (u : ℕ). leaving g u) node)) (spread_head g P now.arrivals head lt (w.spread s)));
}
