-- How a breadth-first search begins, goes on and ends.
use Rattle.std.proofs.Common.{◌≡◌, ◌≢◌, ℕ, zero, suc, ◌+◌, ◌<◌, ◌≤◌, Bool, true, false, ◌⊎◌, List, [], ◌∷◌, length, get_or, set, map, refl, sym, ap, subst, ◌∙◌, inl, inr, arith}
use Rattle.std.specs.Prelude.{IsTrue, All, IfOk, Result, Ok, Err}
use Rattle.std.proofs.lemmas.List.Elements.{All-from_get_or}
use Rattle.std.proofs.lemmas.Bool.{cases_eq, cases_lt, both_ways}
use Rattle.std.proofs.lemmas.List.{length-set, length-map, get_or-set_same, get_or-set_other}
use Rattle.mono_graph.specs.Digraph.{Digraph, edge_at, has, leaving, entering}
use Rattle.mono_graph.proofs.Membership.{places_at, at_places, has_get_or}
use Rattle.mono_flows.specs.declared.search.AugmentingSearch.{AugmentingSearch}
use Rattle.mono_flows.specs.declared.visit.Visit.{Visit}
use Rattle.mono_flows.specs.Residual.{residual_at, start_of, end_of}
use Rattle.mono_flows.specs.Visits.{visit_at, first_visit, is_marked, IsSearchTree, AreMarks, IsFlowSearch, Extends, Continues, CameTo, IsExpanded}
use Rattle.mono_flows.proofs.Expand.{Covers}

-- each edge with capacity left out of a marked node leads to a marked node, or its node waits from some place on
pub record IsSpread (g : Digraph) (P : List Bool) (f : ℕ → ℕ) (marks : List Bool) (vs : List Visit) (head : ℕ) : Type 0 where
  pub each : (k : ℕ) (back : Bool) → k < length g.edges → 0 < residual_at g P f k back → IsTrue (is_marked marks (start_of (edge_at g k) back))
      → IsTrue (is_marked marks (end_of (edge_at g k) back)) ⊎ ((i : ℕ) × (head ≤ i) × (i < length vs) × ((visit_at vs i).node ≡ start_of (edge_at g k) back))

pub record Searching (g : Digraph) (P : List Bool) (f : ℕ → ℕ) (s t most : ℕ) (marks : List Bool) (vs : List Visit) : Type 0 where
  pub tree : IsSearchTree g P f vs
  pub ok : AreMarks g marks vs
  pub first : (visit_at vs 0).node ≡ s
  pub residual : (visit_at vs 0).residual ≡ most
  pub away : is_marked marks t ≡ false

none_marked : (marks : List Bool) (s w : ℕ) → ((u : ℕ) → is_marked marks u ≡ false) → (w ≢ s) → is_marked (set marks s true) w ≡ false
none_marked marks s w clear ne = get_or-set_other marks s w true false ne ∙ clear w

-- a search tree of one visit
pub first_tree : (g : Digraph) (P : List Bool) (f : ℕ → ℕ) (s most : ℕ) → s < g.nodes → 0 < most → IsSearchTree g P f (first_visit s most ∷ [])
first_tree g P f s most s-in some = record {
  some = omega arith;
  nodes = λ i lt. only i lt;
  residuals = λ i lt. has_residual i lt;
  most = λ i lt. top i lt;
  steps = λ i pos lt. absurd (omega arith);
}
  where
    only : (i : ℕ) → i < 1 → (visit_at (first_visit s most ∷ []) i).node < g.nodes
    only zero lt = s-in
    only (suc i) lt = absurd (omega arith)

    has_residual : (i : ℕ) → i < 1 → 0 < (visit_at (first_visit s most ∷ []) i).residual
    has_residual zero lt = some
    has_residual (suc i) lt = absurd (omega arith)

    top : (i : ℕ) → i < 1 → (visit_at (first_visit s most ∷ []) i).residual ≤ most
    top zero lt = omega arith
    top (suc i) lt = absurd (omega arith)

pub searching : (g : Digraph) (P : List Bool) (f : ℕ → ℕ) (s t most : ℕ) (marks : List Bool) → length marks ≡ g.nodes → ((u : ℕ) → is_marked marks u ≡ false) → s < g.nodes → (s ≢ t) → 0 < most
    → Searching g P f s t most (set marks s true) (first_visit s most ∷ [])
searching g P f s t most marks len clear s-in apart some = record {
  tree = first_tree g P f s most s-in some;
  ok = record {
    len = length-set marks s true ∙ len;
    marked = λ i lt. mark i lt;
    visited = λ u h. elim (cases_eq u s) [
      | inl e ↦ (0, omega arith, sym e)
      | inr ne ↦ absurd (both_ways (is_marked (set marks s true) u) (none_marked marks s u clear ne) h)
    ];
    once = λ i j lti ltj e. omega arith;
  };
  first = refl;
  residual = refl;
  away = none_marked marks s t clear (λ e. apart (sym e));
}
  where
    mark : (i : ℕ) → i < 1 → IsTrue (is_marked (set marks s true) (visit_at (first_visit s most ∷ []) i).node)
    mark zero lt = get_or-set_same marks s true false (omega (arith, len))
    mark (suc i) lt = absurd (omega arith)

pub spread_first : (g : Digraph) (P : List Bool) (f : ℕ → ℕ) (s most : ℕ) (marks : List Bool) → ((u : ℕ) → is_marked marks u ≡ false) → IsSpread g P f (set marks s true) (first_visit s most ∷ []) 0
spread_first g P f s most marks clear = record {
  each = λ k back lt some h. elim (cases_eq (start_of (edge_at g k) back) s) [
    | inl e ↦ inr (0, omega arith, omega arith, sym e)
    | inr ne ↦ absurd (both_ways _ (none_marked marks s (start_of (edge_at g k) back) clear ne) h)
  ];
}

pub spread_more : (g : Digraph) (P : List Bool) (f : ℕ → ℕ) (marks new : List Bool) (vs ws : List Visit) (head : ℕ) → head < length vs → AreMarks g marks vs → AreMarks g new ws → Extends marks new vs ws
    → IsExpanded g P f (visit_at vs head).node new → IsSpread g P f marks vs head → IsSpread g P f new ws (head + 1)
spread_more g P f marks new vs ws head inside ok ok' x expanded s = record {
  each = λ k back lt some h.
      let r = ok'.visited (start_of (edge_at g k) back) h in
      elim (cases_lt r.0 (length vs)) [
        | inr later ↦ inr (r.0, omega arith, r.1, r.2)
        | inl early ↦
            let before : (visit_at vs r.0).node ≡ start_of (edge_at g k) back = ap (λ (v : Visit). v.node) (sym (x.same r.0 early)) ∙ r.2 in
            elim (s.each k back lt some (subst (λ (u : ℕ). IsTrue (is_marked marks u)) before (ok.marked r.0 early))) [
              | inl reached ↦ inl (x.kept (end_of (edge_at g k) back) reached)
              | inr w ↦ elim (cases_eq w.0 head) [
                | inl e ↦ inl (expanded k back lt (sym w.3 ∙ ap (λ (i : ℕ). (visit_at vs i).node) e) some)
                | inr ne ↦ inr (w.0, let low = w.1 in omega arith, let high = w.2 in let grows = x.grows in omega arith, ap (λ (v : Visit). v.node) (x.same w.0 w.2) ∙ w.3)
              ]
            ]
      ];
}

pub search_more : (g : Digraph) (P : List Bool) (f : ℕ → ℕ) (s t most : ℕ) (marks new : List Bool) (vs ws : List Visit) → Searching g P f s t most marks vs → IsSearchTree g P f ws → AreMarks g new ws → Extends marks new vs ws
    → is_marked new t ≡ false → Searching g P f s t most new ws
search_more g P f s t most marks new vs ws x tree ok e away = record {
  tree = tree;
  ok = ok;
  first = ap (λ (v : Visit). v.node) (e.same 0 x.tree.some) ∙ x.first;
  residual = ap (λ (v : Visit). v.residual) (e.same 0 x.tree.some) ∙ x.residual;
  away = away;
}

pub extends_twice : (marks new last : List Bool) (vs ws us : List Visit) → Extends marks new vs ws → Extends new last ws us → Extends marks last vs us
extends_twice marks new last vs ws us a b = record {
  grows = let p = a.grows in let q = b.grows in omega arith;
  same = λ i lt. b.same i (let p = a.grows in omega arith) ∙ a.same i lt;
  kept = λ u h. b.kept u (a.kept u h);
}

pub continues_twice : {g : Digraph} {P : List Bool} {f : ℕ → ℕ} {marks new last : List Bool} {vs ws us : List Visit} → Continues g P f marks new vs ws → Continues g P f new last ws us
    → Continues g P f marks last vs us
continues_twice {marks = marks} {new = new} {last = last} {vs = vs} {ws = ws} {us = us} a b = record {
  tree = b.tree;
  marks = b.marks;
  extends = extends_twice marks new last vs ws us a.extends b.extends;
  work = let first = a.work in let then = b.work in omega (arith, first, then);
}

pub came_later : (sink : ℕ) (old new last : AugmentingSearch) (found came : Bool) → CameTo sink old new found → found ≡ false → CameTo sink new last came → CameTo sink old last came
came_later sink old new last found came a not-yet b = record { there = b.there; away = λ e off. b.away e (a.away not-yet off) }

-- ---- the edges at a node

pub places_from : (g : Digraph) (u w : ℕ) (ks : List ℕ) → u ≡ w → ks ≡ leaving g u → All (λ k. (k < length g.edges) × (start_of (edge_at g k) false ≡ w)) ks
places_from g u w ks is places = subst (λ (js : List ℕ). All (λ k. (k < length g.edges) × (start_of (edge_at g k) false ≡ w)) js) (sym places)
    (All-from_get_or (λ k. (k < length g.edges) × (start_of (edge_at g k) false ≡ w)) (leaving g u) 0 (λ i lt.
    let r = places_at (λ e. e.from) g u (get_or (leaving g u) i 0) (has_get_or (leaving g u) i 0 lt) in (r.0, r.1 ∙ is)))

pub places_to : (g : Digraph) (u w : ℕ) (ks : List ℕ) → u ≡ w → ks ≡ entering g u → All (λ k. (k < length g.edges) × (start_of (edge_at g k) true ≡ w)) ks
places_to g u w ks is places = subst (λ (js : List ℕ). All (λ k. (k < length g.edges) × (start_of (edge_at g k) true ≡ w)) js) (sym places)
    (All-from_get_or (λ k. (k < length g.edges) × (start_of (edge_at g k) true ≡ w)) (entering g u) 0 (λ i lt.
    let r = places_at (λ e. e.to) g u (get_or (entering g u) i 0) (has_get_or (entering g u) i 0 lt) in (r.0, r.1 ∙ is)))

-- both directions have been looked at
pub both_ways_expanded : (g : Digraph) (P : List Bool) (f : ℕ → ℕ) (u w : ℕ) (ks js : List ℕ) (middle new : List Bool) → u ≡ w → ks ≡ leaving g u → js ≡ entering g u
    → Covers g P f false middle ks → ((x : ℕ) → IsTrue (is_marked middle x) → IsTrue (is_marked new x)) → Covers g P f true new js → IsExpanded g P f w new
both_ways_expanded g P f u w ks js middle new is out into forth kept back k false lt start some =
    kept (edge_at g k).to (forth k (subst (λ (is' : List ℕ). IsTrue (has is' k)) (sym out) (at_places (λ e. e.from) g u k lt (start ∙ sym is))) some)
both_ways_expanded g P f u w ks js middle new is out into forth kept back k true lt start some =
    back k (subst (λ (is' : List ℕ). IsTrue (has is' k)) (sym into) (at_places (λ e. e.to) g u k lt (start ∙ sym is))) some

pub if_ok_both : {T E : Type 0} (r : Result T E) (P Q R : T → Type 0) → IfOk r P → IfOk r Q → ((x : T) → P x → Q x → R x) → IfOk r R
if_ok_both (Ok x) P Q R p q f = f x p q
if_ok_both (Err e) P Q R p q f = p

-- ---- what holds between searches

-- the nodes of visits
pub node_at : (vs : List Visit) (i : ℕ) → i < length vs → get_or (map (λ (v : Visit). v.node) vs) i 0 ≡ (visit_at vs i).node
node_at [] i lt = absurd (omega arith)
node_at (v ∷ vs) zero lt = refl
node_at (v ∷ vs) (suc i) lt = node_at vs i (omega arith)

-- every marked node was visited
pub marks_visited : (g : Digraph) (marks : List Bool) (vs : List Visit) → AreMarks g marks vs → (u : ℕ) → IsTrue (is_marked marks u) → IsTrue (has (map (λ v. v.node) vs) u)
marks_visited g marks vs ok u h =
    let r = ok.visited u h in
    subst (λ (w : ℕ). IsTrue (has (map (λ (v : Visit). v.node) vs) w)) (node_at vs r.0 r.1 ∙ r.2)
    (has_get_or (map (λ (v : Visit). v.node) vs) r.0 0 (let i = r.1 in omega (arith, length-map vs (λ (v : Visit). v.node))))

-- the nodes of a search tree are the graph's
pub tree_within : (g : Digraph) (P : List Bool) (f : ℕ → ℕ) (vs : List Visit) → IsSearchTree g P f vs → All (λ v. v.node < g.nodes) vs
tree_within g P f vs t = All-from_get_or (λ v. v.node < g.nodes) vs (first_visit 0 0) t.nodes

-- marks and visits of a search tree are those of a search
pub search_of : {g : Digraph} {P : List Bool} {f : ℕ → ℕ} (marks : List Bool) (vs : List Visit) (search : AugmentingSearch) → search.marks.items ≡ marks → search.visits.items ≡ vs → IsSearchTree g P f vs → AreMarks g marks vs → IsFlowSearch g.nodes search
search_of {g = g} {P = P} {f = f} marks vs search marks-is visits-is tree ok = record {
  len = ap (λ (ms : List Bool). length ms) marks-is ∙ ok.len;
  inside = subst (λ (us : List Visit). All (λ v. v.node < g.nodes) us) (sym visits-is) (tree_within g P f vs tree);
  visited = λ u h. subst (λ (us : List Visit). IsTrue (has (map (λ v. v.node) us) u)) (sym visits-is)
      (marks_visited g marks vs ok u (subst (λ (ms : List Bool). IsTrue (is_marked ms u)) marks-is h));
}
