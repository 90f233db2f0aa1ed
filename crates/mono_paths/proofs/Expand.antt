-- The edges of one visit's node are looked at one after another.
use Rattle.std.proofs.Common.{◌≡◌, ℕ, ◌+◌, ◌<◌, ◌≤◌, Bool, true, not, ◌&&◌, ◌⊎◌, List, [], ◌∷◌, ◌++◌, length, get_or, set, drop, sum, refl, sym, ap, subst, ◌∙◌, inl, inr, arith, length-append}
use Rattle.std.specs.Prelude.{IsTrue, ◌==◌, nat_le}
use Rattle.std.proofs.lemmas.Bool.{or_left, or_right, and_from, ne_eqb, le-leb, not_from_false, cases_eq, cases_lt}
use Rattle.std.proofs.lemmas.List.{length-set, get_or-set_same, get_or-set_other, get_or_append_left, get_or_push, get_or_past, get_or_read, drop_more}
use Rattle.std.proofs.lemmas.List.Sums.{sum_by-set}
use Rattle.mono_graph.specs.Digraph.{Digraph, present, edge_at, has, leaving}
use Rattle.mono_graph.specs.Walks.{cost_of}
use Rattle.mono_graph.proofs.Membership.{has_cons, at_places, places_at, has_get_or}
use Rattle.mono_paths.specs.declared.visit.Visit.{Visit}
use Rattle.mono_paths.specs.Trails.{visit_at, no_visit, IsTrail, IsStep, IsVisited}
use Rattle.mono_paths.specs.Spread.{label_of, IsTight, IsWaiting, IsSpread, AreLabels, Lowers, waits_after}
use Rattle.mono_paths.proofs.Trails.{trail_push}
use Rattle.mono_graph.specs.declared.limit.Limit.{Limit}

-- the edge is tight, begins at a node that waits, or is among those of the visit's node that are still to be looked at
abbrev pub IsCovered : Digraph → Limit → (ℕ → Bool) → List ℕ → List Visit → ℕ → List ℕ → ℕ → Type 0
IsCovered g limit waits labels vs u ks k =
    (IsTight g limit labels k ⊎ IsWaiting waits labels vs (edge_at g k).from) ⊎ (((edge_at g k).from ≡ u) × IsTrue (has ks k))

pub record Expanding (g : Digraph) (P : List Bool) (limit : Limit) (cap : ℕ) (labels0 : List ℕ) (vs0 : List Visit) (at : ℕ) (labels : List ℕ) (vs : List Visit) (ks : List ℕ) : Type 0 where
  pub trail : IsTrail g P limit vs
  pub ok : AreLabels g cap labels vs
  pub grows : length vs0 ≤ length vs
  pub same : (i : ℕ) → i < length vs0 → visit_at vs i ≡ visit_at vs0 i
  pub work : sum labels + length vs ≤ sum labels0 + length vs0
  pub current : label_of labels (visit_at vs0 at).node ≡ (visit_at vs0 at).cost
  pub covered : (waits : ℕ → Bool) → IsSpread g P limit labels0 vs0 waits → (k : ℕ) → k < length g.edges → IsTrue (present P k)
      → IsCovered g limit (waits_after waits at (length vs0)) labels vs (visit_at vs0 at).node ks k

waits_other : (waits : ℕ → Bool) (at n i : ℕ) → IsTrue (waits i) → (i ≡ at → ⊥) → IsTrue (waits_after waits at n i)
waits_other waits at n i w ne = or_left (waits i && not (i == at)) (nat_le n i) (and_from (waits i) (not (i == at)) w (not_from_false (i == at) (ne_eqb i at ne)))

waits_new : (waits : ℕ → Bool) (at n i : ℕ) → n ≤ i → IsTrue (waits_after waits at n i)
waits_new waits at n i le = or_right (waits i && not (i == at)) (nat_le n i) (le-leb n i le)

-- a visit whose cost is no longer the label of its node says nothing
pub stale : (g : Digraph) (P : List Bool) (limit : Limit) (labels : List ℕ) (vs : List Visit) (at : ℕ) → ((visit_at vs at).cost ≡ label_of labels (visit_at vs at).node → ⊥)
    → (waits : ℕ → Bool) → IsSpread g P limit labels vs waits → IsSpread g P limit labels vs (waits_after waits at (length vs))
stale g P limit labels vs at old waits s = record {
  each = λ k lt here. elim (s.each k lt here) [
    | inl t ↦ inl t
    | inr w ↦ inr (w.0, w.1, waits_other waits at (length vs) w.0 w.2 (λ e. old (subst (λ (i : ℕ). (visit_at vs i).cost ≡ label_of labels (visit_at vs i).node) e (w.4 ∙ ap (λ (u : ℕ). label_of labels u) (sym w.3)))), w.3, w.4)
  ];
}

pub start : (g : Digraph) (P : List Bool) (limit : Limit) (cap : ℕ) (labels : List ℕ) (vs : List Visit) (at : ℕ) → IsTrail g P limit vs → AreLabels g cap labels vs
    → (visit_at vs at).cost ≡ label_of labels (visit_at vs at).node → Expanding g P limit cap labels vs at labels vs (leaving g (visit_at vs at).node)
start g P limit cap labels vs at trail ok now = record {
  trail = trail;
  ok = ok;
  grows = omega arith;
  same = λ i lt. refl;
  work = omega arith;
  current = sym now;
  covered = λ waits s k lt here. elim (s.each k lt here) [
    | inl t ↦ inl (inl t)
    | inr w ↦ elim (cases_eq w.0 at) [
      | inl e ↦ let from : (edge_at g k).from ≡ (visit_at vs at).node = sym w.3 ∙ ap (λ (i : ℕ). (visit_at vs i).node) e in
          inr (from, at_places (λ f. f.from) g (visit_at vs at).node k lt from)
      | inr ne ↦ inl (inr (w.0, w.1, waits_other waits at (length vs) w.0 w.2 ne, w.3, w.4))
    ]
  ];
}

pub finished : (g : Digraph) (P : List Bool) (limit : Limit) (cap : ℕ) (labels0 : List ℕ) (vs0 : List Visit) (at : ℕ) (labels : List ℕ) (vs : List Visit)
    → Expanding g P limit cap labels0 vs0 at labels vs [] → (waits : ℕ → Bool) → IsSpread g P limit labels0 vs0 waits → IsSpread g P limit labels vs (waits_after waits at (length vs0))
finished g P limit cap labels0 vs0 at labels vs x waits s = record {
  each = λ k lt here. elim (x.covered waits s k lt here) [
    | inl c ↦ c
    | inr r ↦ absurd (let no = r.1 in cc)
  ];
}

pub passed : (g : Digraph) (P : List Bool) (limit : Limit) (cap : ℕ) (labels0 : List ℕ) (vs0 : List Visit) (at : ℕ) (labels : List ℕ) (vs : List Visit) (k : ℕ) (ks : List ℕ)
    → at < length vs0 → (edge_at g k).from ≡ (visit_at vs0 at).node
    → Expanding g P limit cap labels0 vs0 at labels vs (k ∷ ks)
    → (IsTrue (present P k) → label_of labels (edge_at g k).to ≤ (visit_at vs at).cost + cost_of limit (edge_at g k))
    → Expanding g P limit cap labels0 vs0 at labels vs ks
passed g P limit cap labels0 vs0 at labels vs k ks inside from x tight = record {
  trail = x.trail;
  ok = x.ok;
  grows = x.grows;
  same = x.same;
  work = x.work;
  current = x.current;
  covered = λ waits s j lt here. elim (x.covered waits s j lt here) [
    | inl c ↦ inl c
    | inr r ↦ elim (has_cons k j ks r.1) [
      | inl e ↦ inl (inl (subst (λ (i : ℕ). IsTight g limit labels i) e
          (let t : label_of labels (edge_at g k).to ≤ (visit_at vs at).cost + cost_of limit (edge_at g k) = tight (subst (λ (i : ℕ). IsTrue (present P i)) (sym e) here) in
          let now : (visit_at vs at).cost ≡ label_of labels (edge_at g k).from =
          ap (λ (v : Visit). v.cost) (x.same at inside) ∙ (sym x.current ∙ ap (λ (u : ℕ). label_of labels u) (sym from)) in
          omega (arith, t, now))))
      | inr there ↦ inr (r.0, there)
    ]
  ];
}

-- the visit by which a place is taken from another visit
abbrev pub visit_by : Digraph → Limit → List Visit → ℕ → ℕ → Visit
visit_by g limit vs at k = record { node = (edge_at g k).to; place = k; before = at; cost = (visit_at vs at).cost + cost_of limit (edge_at g k) }

pub step_by : (g : Digraph) (P : List Bool) (limit : Limit) (vs : List Visit) (at k : ℕ) → at < length vs → k < length g.edges → IsTrue (present P k) → (edge_at g k).from ≡ (visit_at vs at).node
    → IsStep g P limit vs (visit_by g limit vs at k) (length vs)
step_by g P limit vs at k inside lt here from = record { before = inside; known = lt; present = here; from = from; to = refl; cost = refl }

label_set_same : (labels : List ℕ) (u c : ℕ) → u < length labels → label_of (set labels u c) u ≡ c
label_set_same labels u c lt = get_or-set_same labels u c 0 lt

label_set_other : (labels : List ℕ) (u w c : ℕ) → (w ≡ u → ⊥) → label_of (set labels u c) w ≡ label_of labels w
label_set_other labels u w c ne = get_or-set_other labels u w c 0 ne

in_range : (labels : List ℕ) (u c : ℕ) → c < label_of labels u → u < length labels
in_range labels u c below = elim (cases_lt u (length labels)) [
  | inl lt ↦ lt
  | inr past ↦ absurd (omega (arith, get_or_past labels u 0 past))
]

-- a lowered label is lower everywhere
label_set_le : (labels : List ℕ) (u w c : ℕ) → c < label_of labels u → label_of (set labels u c) w ≤ label_of labels w
label_set_le labels u w c below = elim (cases_eq w u) [
  | inl e ↦ subst (λ (x : ℕ). label_of (set labels u c) x ≤ label_of labels x) (sym e) (omega (arith, label_set_same labels u c (in_range labels u c below)))
  | inr ne ↦ omega (arith, label_set_other labels u w c ne)
]

visit_kept : (vs : List Visit) (v : Visit) (i : ℕ) → i < length vs → visit_at (vs ++ v ∷ []) i ≡ visit_at vs i
visit_kept vs v i lt = get_or_append_left vs (v ∷ []) no_visit i lt

visit_new : (vs : List Visit) (v : Visit) → visit_at (vs ++ v ∷ []) (length vs) ≡ v
visit_new vs v = get_or_push vs v no_visit (length vs) refl

waiting_kept : (g : Digraph) (limit : Limit) (waits : ℕ → Bool) (labels : List ℕ) (vs : List Visit) (v : Visit) (u : ℕ) → (u ≡ v.node → ⊥)
    → IsWaiting waits labels vs u → IsWaiting waits (set labels v.node v.cost) (vs ++ v ∷ []) u
waiting_kept g limit waits labels vs v u other w =
    let old : visit_at (vs ++ v ∷ []) w.0 ≡ visit_at vs w.0 = visit_kept vs v w.0 w.1 in
    (w.0, omega (arith, length-append vs (v ∷ []), w.1), w.2, ap (λ (x : Visit). x.node) old ∙ w.3, ap (λ (x : Visit). x.cost) old ∙ (w.4 ∙ sym (label_set_other labels v.node u v.cost other)))

waiting_new : (waits : ℕ → Bool) (labels : List ℕ) (vs : List Visit) (v : Visit) (u : ℕ) → u ≡ v.node → v.cost < label_of labels v.node → IsTrue (waits (length vs))
    → IsWaiting waits (set labels v.node v.cost) (vs ++ v ∷ []) u
waiting_new waits labels vs v u same below due = (
  length vs,
  omega (arith, length-append vs (v ∷ [])),
  due,
  ap (λ (x : Visit). x.node) (visit_new vs v) ∙ sym same,
  ap (λ (x : Visit). x.cost) (visit_new vs v) ∙ (sym (label_set_same labels v.node v.cost (in_range labels v.node v.cost below)) ∙ ap (λ (w : ℕ). label_of (set labels v.node v.cost) w) (sym same)),
)

visited_kept : (vs : List Visit) (v : Visit) (u n : ℕ) → IsVisited vs u n → IsVisited (vs ++ v ∷ []) u n
visited_kept vs v u n w =
    let old : visit_at (vs ++ v ∷ []) w.0 ≡ visit_at vs w.0 = visit_kept vs v w.0 w.1 in
    (w.0, omega (arith, length-append vs (v ∷ []), w.1), ap (λ (x : Visit). x.node) old ∙ w.2, ap (λ (x : Visit). x.cost) old ∙ w.3)

visited_new : (labels : List ℕ) (vs : List Visit) (v : Visit) (u : ℕ) → u ≡ v.node → v.cost < label_of labels v.node → IsVisited (vs ++ v ∷ []) u (label_of (set labels v.node v.cost) u)
visited_new labels vs v u same below =
    let w = waiting_new (λ (i : ℕ). true) labels vs v u same below refl in
    (w.0, w.1, w.3, w.4)

pub lowered : (g : Digraph) (P : List Bool) (limit : Limit) (cap : ℕ) (labels0 : List ℕ) (vs0 : List Visit) (at : ℕ) (labels : List ℕ) (vs : List Visit) (k : ℕ) (ks : List ℕ)
    → at < length vs0 → k < length g.edges → (edge_at g k).from ≡ (visit_at vs0 at).node
    → Expanding g P limit cap labels0 vs0 at labels vs (k ∷ ks) → IsTrue (present P k) → (visit_at vs at).cost + cost_of limit (edge_at g k) < label_of labels (edge_at g k).to
    → Expanding g P limit cap labels0 vs0 at (set labels (edge_at g k).to ((visit_at vs at).cost + cost_of limit (edge_at g k))) (vs ++ visit_by g limit vs at k ∷ []) ks
lowered g P limit cap labels0 vs0 at labels vs k ks inside lt from x here below =
    let v : Visit = visit_by g limit vs at k in
    let still : visit_at vs at ≡ visit_at vs0 at = x.same at inside in
    let inside' : at < length vs = let grows = x.grows in omega arith in
    let some : 0 < length vs = x.trail.some in
    let now : (visit_at vs at).cost ≡ label_of labels (edge_at g k).from =
    ap (λ (w : Visit). w.cost) still ∙ (sym x.current ∙ ap (λ (u : ℕ). label_of labels u) (sym from)) in
    let not_from : (edge_at g k).from ≡ v.node → ⊥ = λ e. let same : label_of labels (edge_at g k).from ≡ label_of labels v.node = ap (λ (u : ℕ). label_of labels u) e in omega arith in
    let not_first : (visit_at vs 0).node ≡ v.node → ⊥ = λ e. let same : label_of labels (visit_at vs 0).node ≡ label_of labels v.node = ap (λ (u : ℕ). label_of labels u) e in
    let none : label_of labels (visit_at vs 0).node ≡ 0 = x.ok.start in omega arith in
    let first : visit_at (vs ++ v ∷ []) 0 ≡ visit_at vs 0 = visit_kept vs v 0 some in
    let room : v.node < length labels = in_range labels v.node v.cost below in
    record {
      trail = trail_push g P limit vs v x.trail (step_by g P limit vs at k inside' lt here (from ∙ ap (λ (w : Visit). w.node) (sym still))) (let len = x.ok.len in omega (arith, room));
      ok = record {
        len = length-set labels v.node v.cost ∙ x.ok.len;
        start = ap (λ (w : Visit). label_of (set labels v.node v.cost) w.node) first ∙ (label_set_other labels v.node (visit_at vs 0).node v.cost not_first ∙ x.ok.start);
        most = λ u. let old = x.ok.most u in omega (arith, label_set_le labels v.node u v.cost below, old);
        made = λ u u-in low. elim (cases_eq u v.node) [
          | inl e ↦ visited_new labels vs v u e below
          | inr other ↦ visited_kept vs v u (label_of (set labels v.node v.cost) u)
              (subst (λ (n : ℕ). IsVisited vs u n) (sym (label_set_other labels v.node u v.cost other)) (x.ok.made u u-in (subst (λ (n : ℕ). n < cap) (label_set_other labels v.node u v.cost other) low)))
        ];
      };
      grows = let grows = x.grows in omega (arith, length-append vs (v ∷ []));
      same = λ i low. visit_kept vs v i (let grows = x.grows in omega arith) ∙ x.same i low;
      work = let work = x.work in omega (arith, length-append vs (v ∷ []), sum_by-set (λ (n : ℕ). n) labels v.node v.cost 0 room);
      current = label_set_other labels v.node (visit_at vs0 at).node v.cost (λ e. not_from (from ∙ e)) ∙ x.current;
      covered = λ waits s j ltj herej.
          let still_tight : ((edge_at g j).from ≡ v.node → ⊥) → IsTight g limit labels j → IsTight g limit (set labels v.node v.cost) j =
          λ other t. omega (arith, label_set_le labels v.node (edge_at g j).to v.cost below, label_set_other labels v.node (edge_at g j).from v.cost other, t) in
          elim (cases_eq (edge_at g j).from v.node) [
            | inl again ↦ inl (inr (waiting_new (waits_after waits at (length vs0)) labels vs v (edge_at g j).from again below (waits_new waits at (length vs0) (length vs) x.grows)))
            | inr other ↦ elim (x.covered waits s j ltj herej) [
              | inl c ↦ elim c [
                | inl t ↦ inl (inl (still_tight other t))
                | inr w ↦ inl (inr (waiting_kept g limit (waits_after waits at (length vs0)) labels vs v (edge_at g j).from other w))
              ]
              | inr r ↦ elim (has_cons k j ks r.1) [
                | inl e ↦ inl (inl (subst (λ (i : ℕ). IsTight g limit (set labels v.node v.cost) i) e
                    (omega (arith, label_set_same labels v.node v.cost room, label_set_other labels v.node (edge_at g k).from v.cost not_from, now))))
                | inr there ↦ inr (r.0, there)
              ]
            ]
          ];
    }

-- ---- at the values of the loop

pub visit_read : (vs : List Visit) (at : ℕ) (v : Visit) → at < length vs → v ≡ get_or vs at v → v ≡ visit_at vs at
visit_read vs at v lt is = get_or_read vs at v lt is no_visit

pub begun : (g : Digraph) (P : List Bool) (limit : Limit) (cap : ℕ) (labels : List ℕ) (vs : List Visit) (at : ℕ) (v : Visit) (ks : List ℕ) → IsTrail g P limit vs → AreLabels g cap labels vs
    → v ≡ visit_at vs at → v.cost ≡ label_of labels v.node → ks ≡ leaving g v.node → Expanding g P limit cap labels vs at labels vs ks
begun g P limit cap labels vs at v ks trail ok is now places =
    subst (λ (js : List ℕ). Expanding g P limit cap labels vs at labels vs js) (sym (places ∙ ap (λ (w : Visit). leaving g w.node) is))
    (start g P limit cap labels vs at trail ok (subst (λ (w : Visit). w.cost ≡ label_of labels w.node) is now))

pub at_node : (g : Digraph) (vs : List Visit) (at : ℕ) (v : Visit) (ks : List ℕ) (i k : ℕ) → v ≡ visit_at vs at → ks ≡ leaving g v.node → i < length ks → k ≡ get_or ks i 0
    → (k < length g.edges) × ((edge_at g k).from ≡ (visit_at vs at).node)
at_node g vs at v ks i k is places lt read =
    let inside : IsTrue (has ks k) = subst (λ (j : ℕ). IsTrue (has ks j)) (sym read) (has_get_or ks i 0 lt) in
    let r = places_at (λ e. e.from) g v.node k (subst (λ (js : List ℕ). IsTrue (has js k)) places inside) in
    (r.0, r.1 ∙ ap (λ (w : Visit). w.node) is)

pub next_passed : (g : Digraph) (P : List Bool) (limit : Limit) (cap : ℕ) (labels0 : List ℕ) (vs0 : List Visit) (at : ℕ) (labels new : List ℕ) (vs ws : List Visit) (v : Visit) (ks : List ℕ) (i k : ℕ)
    → at < length vs0 → v ≡ visit_at vs0 at → ks ≡ leaving g v.node → i < length ks → k ≡ get_or ks i 0
    → Expanding g P limit cap labels0 vs0 at labels vs (drop i ks)
    → (new ≡ labels) × (ws ≡ vs) × (IsTrue (present P k) → label_of labels (edge_at g k).to ≤ (visit_at vs at).cost + cost_of limit (edge_at g k))
    → Expanding g P limit cap labels0 vs0 at new ws (drop (i + 1) ks)
next_passed g P limit cap labels0 vs0 at labels new vs ws v ks i k inside is places lt read x r =
    let b = at_node g vs0 at v ks i k is places lt read in
    let front : drop i ks ≡ k ∷ drop (i + 1) ks = drop_more ks i 0 lt ∙ ap (λ (j : ℕ). j ∷ drop (i + 1) ks) (sym read) in
    let step : Expanding g P limit cap labels0 vs0 at labels vs (drop (i + 1) ks) =
    passed g P limit cap labels0 vs0 at labels vs k (drop (i + 1) ks) inside b.1 (subst (λ (js : List ℕ). Expanding g P limit cap labels0 vs0 at labels vs js) front x) r.2 in
    subst (λ (ls : List ℕ). Expanding g P limit cap labels0 vs0 at ls ws (drop (i + 1) ks)) (sym r.0)
    (subst (λ (us : List Visit). Expanding g P limit cap labels0 vs0 at labels us (drop (i + 1) ks)) (sym r.1) step)

pub next_lowered : (g : Digraph) (P : List Bool) (limit : Limit) (cap : ℕ) (labels0 : List ℕ) (vs0 : List Visit) (at : ℕ) (labels new : List ℕ) (vs ws : List Visit) (v : Visit) (ks : List ℕ) (i k : ℕ)
    → at < length vs0 → v ≡ visit_at vs0 at → ks ≡ leaving g v.node → i < length ks → k ≡ get_or ks i 0
    → Expanding g P limit cap labels0 vs0 at labels vs (drop i ks)
    → IsTrue (present P k) × Lowers labels new vs ws (visit_by g limit vs at k)
    → Expanding g P limit cap labels0 vs0 at new ws (drop (i + 1) ks)
next_lowered g P limit cap labels0 vs0 at labels new vs ws v ks i k inside is places lt read x r =
    let b = at_node g vs0 at v ks i k is places lt read in
    let front : drop i ks ≡ k ∷ drop (i + 1) ks = drop_more ks i 0 lt ∙ ap (λ (j : ℕ). j ∷ drop (i + 1) ks) (sym read) in
    let step = lowered g P limit cap labels0 vs0 at labels vs k (drop (i + 1) ks) inside b.0 b.1
    (subst (λ (js : List ℕ). Expanding g P limit cap labels0 vs0 at labels vs js) front x) r.0 r.1.below in
    subst (λ (ls : List ℕ). Expanding g P limit cap labels0 vs0 at ls ws (drop (i + 1) ks)) (sym r.1.labels)
    (subst (λ (us : List Visit). Expanding g P limit cap labels0 vs0 at (set labels (edge_at g k).to ((visit_at vs at).cost + cost_of limit (edge_at g k))) us (drop (i + 1) ks)) (sym r.1.visits) step)
