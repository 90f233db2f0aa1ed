-- What the labels of a search say of the walks from where it began.
use Rattle.std.proofs.Common.{◌≡◌, ℕ, zero, suc, ◌+◌, ◌<◌, ◌≤◌, Bool, false, ◌&&◌, List, [], ◌∷◌, ◌++◌, length, get_or, sum_by, refl, sym, ap, subst, ◌∙◌, inl, inr, arith, ℤ, pos, negsuc, ◌≤ℤ◌, ◌<ℤ◌, int_le, ◌↔◌}
use Rattle.std.specs.Prelude.{IsTrue, ◌==◌, Some, None, All}
use Rattle.std.specs.List.{list_all}
use Rattle.std.proofs.lemmas.Bool.{and_from, and_parts, eq-eqb, eqb-true, lt-ltb, ltb-true, cases_eq, cases_lt, cases_Bool}
use Rattle.std.proofs.lemmas.List.{get_or_append_left, get_or_push, get_or_default}
use Rattle.std.proofs.lemmas.List.Sums.{sum_by-cons, sum_by_push}
use Rattle.std.proofs.lemmas.Int.{ints}
use Rattle.mono_graph.specs.declared.limit.Limit.{Limit}
use Rattle.mono_graph.specs.declared.limit.Limit.TheVariants as limit
use Rattle.mono_graph.specs.Digraph.{Digraph, present, is_place, edge_at, weight_of}
use Rattle.mono_graph.specs.Walks.{leads, is_walk, is_light, cost_of, bound_of, cost_along}
use Rattle.mono_paths.specs.declared.measure.Measure.{Measure}
use Rattle.mono_paths.specs.declared.measure.Measure.TheVariants as measure
use Rattle.mono_paths.specs.declared.search.LabelSearch.{LabelSearch}
use Rattle.mono_paths.specs.declared.visit.Visit.{Visit}
use Rattle.mono_paths.specs.Found.{IsBound, with_bound}
use Rattle.mono_paths.specs.Trails.{visit_at, IsTrail}
use Rattle.mono_paths.specs.Spread.{label_of, IsTight, AreTight}
use Rattle.mono_paths.specs.Searches.{IsLabelSearch, source_of}
use Rattle.mono_paths.specs.declared.target.Target.{Target}
use Rattle.mono_paths.specs.Asked.{limit_by, target_at, HasPath}
use Rattle.mono_paths.specs.NodeLabels.{AreReached}
use Rattle.mono_graph.proofs.Membership.{has_get_or, list_all_push}
use Rattle.mono_graph.proofs.Limits.{ones, zeros}
use Rattle.mono_graph.proofs.GrownWalks.{leads_push}
use Rattle.mono_paths.proofs.Ends.{light, reached_low}

-- ---- a walk costs at least what the labels rise along it

pub rises : (g : Digraph) (P : List Bool) (limit : Limit) (labels : List ℕ) → AreTight g P limit labels → (u : ℕ) (ks : List ℕ) (v : ℕ)
    → IsTrue (list_all (is_place g) ks) → IsTrue (list_all (present P) ks) → IsTrue (leads g u ks v) → label_of labels v ≤ label_of labels u + cost_along limit g ks
rises g P limit labels t u [] v known here way = let e = eqb-true u v way in subst (λ (w : ℕ). label_of labels w ≤ label_of labels u + 0) e (omega arith)
rises g P limit labels t u (k ∷ ks) v known here way =
    let q = and_parts (is_place g k) (list_all (is_place g) ks) known in
    let p = and_parts (present P k) (list_all (present P) ks) here in
    let w = and_parts ((edge_at g k).from == u) (leads g (edge_at g k).to ks v) way in
    let from : label_of labels (edge_at g k).from ≡ label_of labels u = ap (λ (x : ℕ). label_of labels x) (eqb-true (edge_at g k).from u w.0) in
    let step : IsTight g limit labels k = t.each k (ltb-true k (length g.edges) q.0) p.0 in
    let rest : label_of labels v ≤ label_of labels (edge_at g k).to + sum_by (λ j. cost_of limit (edge_at g j)) ks = rises g P limit labels t (edge_at g k).to ks v q.1 p.1 w.1 in
    omega (arith, from, step, rest, sum_by-cons (λ j. cost_of limit (edge_at g j)) k ks)

-- ---- a walk leads to each visit

pub record IsWayTo (g : Digraph) (P : List Bool) (limit : Limit) (u v n : ℕ) (ks : List ℕ) : Type 0 where
  pub places : IsTrue (list_all (is_place g) ks)
  pub here : IsTrue (list_all (present P) ks)
  pub way : IsTrue (leads g u ks v)
  pub cost : cost_along limit g ks ≡ n

abbrev HasWayTo : Digraph → List Bool → Limit → ℕ → ℕ → ℕ → Type 0
HasWayTo g P limit u v n = (ks : List ℕ) × IsWayTo g P limit u v n ks

pub way_to : (g : Digraph) (P : List Bool) (limit : Limit) (vs : List Visit) → IsTrail g P limit vs → (n i : ℕ) → i < n → i < length vs
    → HasWayTo g P limit (visit_at vs 0).node (visit_at vs i).node (visit_at vs i).cost
way_to g P limit vs t zero i early lt = absurd (omega arith)
way_to g P limit vs t (suc n) i early lt = elim (cases_eq i 0) [
  | inl e ↦ subst (λ (j : ℕ). HasWayTo g P limit (visit_at vs 0).node (visit_at vs j).node (visit_at vs j).cost) (sym e)
      ([], record { places = refl; here = refl; way = eq-eqb (visit_at vs 0).node (visit_at vs 0).node refl; cost = sym t.start })
  | inr ne ↦
      let s = t.steps i (omega arith) lt in
      let k : ℕ = (visit_at vs i).place in
      let low : (visit_at vs i).before < n = let b = s.before in omega arith in
      let r = way_to g P limit vs t n (visit_at vs i).before low (let b = s.before in omega arith) in
      let total : cost_along limit g (r.0 ++ k ∷ []) ≡ (visit_at vs i).cost =
      sum_by_push (λ j. cost_of limit (edge_at g j)) r.0 k ∙ (ap (λ (c : ℕ). c + cost_of limit (edge_at g k)) r.1.cost ∙ sym s.cost) in (
        r.0 ++ k ∷ [],
        record {
          places = list_all_push (is_place g) r.0 k r.1.places (lt-ltb k (length g.edges) s.known);
          here = list_all_push (present P) r.0 k r.1.here s.present;
          way = subst (λ (w : ℕ). IsTrue (leads g (visit_at vs 0).node (r.0 ++ k ∷ []) w)) s.to
              (leads_push g (visit_at vs 0).node k (visit_at vs (visit_at vs i).before).node r.0 r.1.way s.from);
          cost = total;
        },
      )
]

-- ---- what counts, whatever the bound is

is_light_by : (m : Measure) (g : Digraph) (most : ℤ) (n : ℕ) (ks : List ℕ) → IsBound (limit_by m most) (Some n) → cost_along (limit_by m (pos 0)) g ks ≤ n → IsTrue (is_light (limit_by m most) g ks)
is_light_by measure.Free g most n ks bound low = refl
is_light_by measure.Steps g most n ks bound low = light (limit.Steps most) g n ks bound (let le : cost_along (limit.Steps most) g ks ≤ n = low in omega arith)
is_light_by measure.Weight g most n ks bound low = light (limit.Weight most) g n ks bound (let le : cost_along (limit.Weight most) g ks ≤ n = low in omega arith)

at_most : (a n : ℕ) (x : ℤ) → x ≡ pos n → IsTrue (int_le (pos a) x) → a ≤ n
at_most a n x e h = grind (arith, ints)

light_costs : (m : Measure) (g : Digraph) (most : ℤ) (n : ℕ) (ks : List ℕ) → IsBound (limit_by m most) (Some n) → IsTrue (is_light (limit_by m most) g ks) → cost_along (limit_by m (pos 0)) g ks ≤ n
light_costs measure.Free g most n ks bound h = omega (arith, zeros ks)
light_costs measure.Steps g most n ks bound h = let le = at_most (length ks) n most bound h in omega (arith, ones ks)
light_costs measure.Weight g most n ks bound h = at_most (weight_of g ks) n most bound h

none_below : (a : ℕ) (x : ℤ) → x ≤ℤ negsuc 0 → IsTrue (int_le (pos a) x) → ⊥
none_below a x e h = grind (arith, ints)

none_light : (m : Measure) (g : Digraph) (most : ℤ) (ks : List ℕ) → IsBound (limit_by m most) None → IsTrue (is_light (limit_by m most) g ks) → ⊥
none_light measure.Free g most ks bound h = omega (arith, ints, bound)
none_light measure.Steps g most ks bound h = none_below (length ks) most bound h
none_light measure.Weight g most ks bound h = none_below (weight_of g ks) most bound h

under_cap : (m : Measure) (most : ℤ) (n cap : ℕ) → IsBound (limit_by m most) (Some n) → most <ℤ pos cap → 0 < cap → n < cap
under_cap measure.Free most n cap bound low some = omega (arith, ints, bound, some)
under_cap measure.Steps most n cap bound low some = omega (arith, ints, bound, low)
under_cap measure.Weight most n cap bound low some = omega (arith, ints, bound, low)

-- ---- answers

pub out_of_bound : (g : Digraph) (P : List Bool) (m : Measure) (u v : ℕ) (most : ℤ) → IsBound (limit_by m most) None → IsTrue false ↔ HasPath g P u v (limit_by m most)
out_of_bound g P m u v most bound = (
  λ t. absurd cc,
  λ there. absurd (none_light m g most there.0 bound (and_parts (is_walk g P u v there.0) (is_light (limit_by m most) g there.0) there.1).1),
)

pub reached_within : (g : Digraph) (P : List Bool) (m : Measure) (u v : ℕ) (most : ℤ) (n : ℕ) (s : LabelSearch) → IsLabelSearch g P (limit_by m (pos 0)) s → source_of s ≡ u → v < g.nodes
    → IsBound (limit_by m most) (Some n) → n < s.labels.cap → label_of s.labels.each v ≤ n → HasPath g P u v (limit_by m most)
reached_within g P m u v most n s search source v-in bound low le =
    let w = search.labelled.made v v-in (omega arith) in
    let r = way_to g P (limit_by m (pos 0)) s.visits.items search.trail (length s.visits.items) w.0 w.1 w.1 in
    let from : IsTrue (leads g u r.0 v) =
    subst (λ (x : ℕ). IsTrue (leads g x r.0 v)) source (subst (λ (x : ℕ). IsTrue (leads g (source_of s) r.0 x)) w.2 r.1.way) in
    let cost : cost_along (limit_by m (pos 0)) g r.0 ≡ label_of s.labels.each v = r.1.cost ∙ w.3 in (
      r.0,
      and_from (is_walk g P u v r.0) (is_light (limit_by m most) g r.0)
          (and_from (list_all (is_place g) r.0 && list_all (present P) r.0) (leads g u r.0 v) (and_from (list_all (is_place g) r.0) (list_all (present P) r.0) r.1.places r.1.here) from)
          (is_light_by m g most n r.0 bound (omega (arith, cost, le))),
    )

pub not_within : (g : Digraph) (P : List Bool) (m : Measure) (u v : ℕ) (most : ℤ) (n : ℕ) (s : LabelSearch) → IsLabelSearch g P (limit_by m (pos 0)) s → source_of s ≡ u
    → IsBound (limit_by m most) (Some n) → n < label_of s.labels.each v → AreTight g P (limit_by m (pos 0)) s.labels.each → HasPath g P u v (limit_by m most) → ⊥
not_within g P m u v most n s search source bound above tight there =
    let p = and_parts (is_walk g P u v there.0) (is_light (limit_by m most) g there.0) there.1 in
    let w = and_parts (list_all (is_place g) there.0 && list_all (present P) there.0) (leads g u there.0 v) p.0 in
    let k = and_parts (list_all (is_place g) there.0) (list_all (present P) there.0) w.0 in
    let along = rises g P (limit_by m (pos 0)) s.labels.each tight u there.0 v k.0 k.1 w.1 in
    let start : label_of s.labels.each u ≡ 0 = ap (λ (x : ℕ). label_of s.labels.each x) (sym source) ∙ search.labelled.start in
    let cheap = light_costs m g most n there.0 bound p.1 in
    omega (arith, along, start, cheap, above)

pub answer_decides : (g : Digraph) (P : List Bool) (m : Measure) (u v : ℕ) (most : ℤ) (n cap : ℕ) (s : LabelSearch) (b : Bool) → IsLabelSearch g P (limit_by m (pos 0)) s → source_of s ≡ u → v < g.nodes
    → IsBound (limit_by m most) (Some n) → most <ℤ pos cap → 0 < cap → s.labels.cap ≡ cap
    → (IsTrue b → label_of s.labels.each v ≤ n) → (b ≡ false → n < label_of s.labels.each v) → (b ≡ false → AreTight g P (limit_by m (pos 0)) s.labels.each)
    → IsTrue b ↔ HasPath g P u v (limit_by m most)
answer_decides g P m u v most n cap s b search source v-in bound low some at_cap found above tight = (
  λ on. reached_within g P m u v most n s search source v-in bound (let lt = under_cap m most n cap bound low some in omega (arith, lt, at_cap)) (found on),
  λ there. elim (cases_Bool b) [
    | inl on ↦ on
    | inr off ↦ absurd (not_within g P m u v most n s search source bound (above off) (tight off) there)
  ],
)

-- ---- one answer more

abbrev IsAnswer : Digraph → List Bool → Measure → ℕ → Target → Bool → Type 0
IsAnswer g P m u t b = IsTrue b ↔ HasPath g P u t.node (limit_by m t.most)

pub answer_more : (g : Digraph) (P : List Bool) (m : Measure) (u w : ℕ) (ts : List Target) (old new : List Bool) (i : ℕ) (t d : Target) (b : Bool) → w ≡ u → i < length ts → t ≡ get_or ts i d
    → length old ≡ i → new ≡ old ++ b ∷ [] → ((j : ℕ) → j < i → IsTrue (get_or old j false) ↔ HasPath g P u (target_at ts j).node (limit_by m (target_at ts j).most))
    → (IsTrue b ↔ HasPath g P w t.node (limit_by m t.most))
    → (j : ℕ) → j < i + 1 → IsTrue (get_or new j false) ↔ HasPath g P u (target_at ts j).node (limit_by m (target_at ts j).most)
answer_more g P m u w ts old new i t d b same lt is len pushed before now j low = elim (cases_lt j i) [
  | inl early ↦
      let read : get_or new j false ≡ get_or old j false = ap (λ (xs : List Bool). get_or xs j false) pushed ∙ get_or_append_left old (b ∷ []) false j (omega arith) in
      subst (λ (x : Bool). IsAnswer g P m u (target_at ts j) x) (sym read) (before j early)
  | inr late ↦
      let e : i ≡ j = omega arith in
      let read : get_or new j false ≡ b = ap (λ (xs : List Bool). get_or xs j false) pushed ∙ get_or_push old b false j (len ∙ e) in
      let target : t ≡ target_at ts j = is ∙ (get_or_default ts i d (record { node = 0; most = pos 0 }) lt ∙ ap (λ (k : ℕ). target_at ts k) e) in
      subst (λ (x : Bool). IsAnswer g P m u (target_at ts j) x) (sym read)
      (subst (λ (x : Target). IsAnswer g P m u x b) target (subst (λ (x : ℕ). IsAnswer g P m x t b) same now))
]

pub raised : (x : ℤ) (a b : ℕ) → x <ℤ pos a → a ≤ b → x <ℤ pos b
raised x a b low le = omega (arith, ints, low, le)

-- ---- a walk to each node that is listed

light_at : (l : Limit) (g : Digraph) (n : ℕ) (ks : List ℕ) → cost_along l g ks ≤ n → IsTrue (is_light (with_bound l (pos n)) g ks)
light_at limit.Free g n ks low = refl
light_at (limit.Steps most) g n ks low = light (limit.Steps (pos n)) g n ks refl (let le : cost_along (limit.Steps (pos n)) g ks ≤ n = low in omega arith)
light_at (limit.Weight most) g n ks low = light (limit.Weight (pos n)) g n ks refl (let le : cost_along (limit.Weight (pos n)) g ks ≤ n = low in omega arith)

walk_by : (g : Digraph) (P : List Bool) (l : Limit) (u v : ℕ) (s : LabelSearch) → IsLabelSearch g P l s → source_of s ≡ u → v < g.nodes → label_of s.labels.each v < s.labels.cap
    → HasPath g P u v (with_bound l (pos (label_of s.labels.each v)))
walk_by g P l u v s search source v-in low =
    let w = search.labelled.made v v-in low in
    let r = way_to g P l s.visits.items search.trail (length s.visits.items) w.0 w.1 w.1 in
    let from : IsTrue (leads g u r.0 v) =
    subst (λ (x : ℕ). IsTrue (leads g x r.0 v)) source (subst (λ (x : ℕ). IsTrue (leads g (source_of s) r.0 x)) w.2 r.1.way) in
    let cost : cost_along l g r.0 ≡ label_of s.labels.each v = r.1.cost ∙ w.3 in (
      r.0,
      and_from (is_walk g P u v r.0) (is_light (with_bound l (pos (label_of s.labels.each v))) g r.0)
          (and_from (list_all (is_place g) r.0 && list_all (present P) r.0) (leads g u r.0 v) (and_from (list_all (is_place g) r.0) (list_all (present P) r.0) r.1.places r.1.here) from)
          (light_at l g (label_of s.labels.each v) r.0 (omega (arith, cost))),
    )

pub all_reached : (g : Digraph) (P : List Bool) (l : Limit) (u : ℕ) (s : LabelSearch) (us : List ℕ) → IsLabelSearch g P l s → source_of s ≡ u → AreReached (length s.labels.each) s.labels.cap s.labels.each us
    → All (λ v. HasPath g P u v (with_bound l (pos (label_of s.labels.each v)))) us
all_reached g P l u s us search source reached =
    let r : AreReached g.nodes s.labels.cap s.labels.each us = subst (λ (n : ℕ). AreReached n s.labels.cap s.labels.each us) search.labelled.len reached in
    λ i d lt.
    let v : ℕ = get_or us i d in
    let v-in : v < g.nodes = r.known i d lt in
    walk_by g P l u v s search source v-in (reached_low g s.labels.each s.labels.cap us r v v-in (has_get_or us i d lt))

in_bound : (x : ℤ) (a n : ℕ) → x ≡ pos n → a < n + 1 → pos a ≤ℤ x
in_bound x a n e lt = omega (arith, ints, e, lt)

pub all_within : (g : Digraph) (P : List Bool) (l : Limit) (u n : ℕ) (s : LabelSearch) (us : List ℕ) → IsLabelSearch g P l s → source_of s ≡ u → IsBound l (Some n) → s.labels.cap ≡ n + 1
    → AreReached (length s.labels.each) s.labels.cap s.labels.each us → All (λ v. (pos (label_of s.labels.each v) ≤ℤ bound_of l) × HasPath g P u v (with_bound l (pos (label_of s.labels.each v)))) us
all_within g P l u n s us search source bound at_cap reached =
    let r : AreReached g.nodes s.labels.cap s.labels.each us = subst (λ (n : ℕ). AreReached n s.labels.cap s.labels.each us) search.labelled.len reached in
    λ i d lt.
    let low = reached_low g s.labels.each s.labels.cap us r (get_or us i d) (r.known i d lt) (has_get_or us i d lt) in
    (in_bound (bound_of l) (label_of s.labels.each (get_or us i d)) n bound (omega (arith, low, at_cap)), all_reached g P l u s us search source reached i d lt)
