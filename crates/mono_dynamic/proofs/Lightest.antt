-- Walks that cost the least, and what a tree of them tells of targets.
use Rattle.std.proofs.Common.{◌≡◌, ℕ, zero, suc, ◌+◌, ◌-◌, ◌<◌, ◌≤◌, cond, Bool, true, false, List, [], ◌∷◌, length, map, get_or, refl, sym, ap, subst, ◌∙◌, inl, inr, arith, pos, int_lt, Option, None, Some}
use Rattle.std.specs.Prelude.{IsTrue, All, ◌==◌}
use Rattle.std.specs.List.{list_all}
use Rattle.std.proofs.lemmas.Bool.{cases_eq, false_from_ne_true, and_from, and_parts, eq-eqb, eqb-true, ltb-true}
use Rattle.std.proofs.lemmas.List.{get_or-map, length-map}
use Rattle.std.proofs.lemmas.List.Sums.{sum_by-cons}
use Rattle.mono_graph.specs.declared.limit.Limit.{Limit}
use Rattle.mono_graph.specs.declared.limit.Limit.TheVariants as limit
use Rattle.mono_graph.specs.Digraph.{Digraph, edge_at, present, has, is_place, IsSubpart}
use Rattle.mono_graph.proofs.Subparts.{is_path-larger}
use Rattle.mono_graph.proofs.Membership.{has_get_or}
use Rattle.mono_graph.specs.Walks.{admits, is_walk, is_light, is_path, leads, bound_of, cost_of, cost_along}
use Rattle.mono_dynamic.specs.declared.arrival.Arrival.{Arrival}
use Rattle.mono_dynamic.specs.declared.cost_source.CostSource.{CostSource}
use Rattle.mono_dynamic.specs.declared.walk_target.WalkTarget.{WalkTarget}
use Rattle.mono_dynamic.specs.Arrivals.{arrival_at, is_reached, IsTree}
use Rattle.mono_dynamic.specs.declared.change.Change.{Change}
use Rattle.mono_dynamic.specs.Costs.{Costs, change_at, label_of, no_change, unwound, AreLeast, IsLast}
use Rattle.mono_dynamic.specs.LeastRows.{costs_from, measure_of}
use Rattle.mono_dynamic.specs.Reached.{Reached}
use Rattle.mono_dynamic.specs.Rows.{alone}
use Rattle.mono_dynamic.specs.SearchTrees.{RestsOn, IsSearchTree}
use Rattle.mono_dynamic.specs.Mending.{IsMendedTree}
use Rattle.mono_dynamic.specs.Ways.{Ways, first_ways, no_target, ways_of, limit_in, labels_in, cap_in, has_target, gives_label, is_lightest, AreCostsFrom, IsTargetOf, IsPriced, AreReachedWays, AreWaysTo, AreLightest, IsLight, AreAsked}
use Rattle.mono_graph.proofs.Limits.{light_of, low_enough, of_light, under_cap}
use Rattle.mono_graph.proofs.GrownWalks.{walks, is_walk_of, walk_front, walk_none}
use Rattle.mono_dynamic.proofs.Listed.{reached_index, reached_here}
use Rattle.mono_dynamic.proofs.LeastExact.{HasNodes, EachTight, bounded, each_tight, first_other}
use Rattle.mono_dynamic.proofs.CostLists.{unwound_other}
use Rattle.mono_dynamic.proofs.Lists.{index_of}
use Rattle.mono_dynamic.proofs.SearchTrees.{tree_stays}

-- ---- limits and bounds

pub same_cost : (k l : Limit) (g : Digraph) (ks : List ℕ) → measure_of k ≡ measure_of l → cost_along k g ks ≡ cost_along l g ks
same_cost limit.Free limit.Free g ks same = refl
same_cost (limit.Steps a) (limit.Steps b) g ks same = refl
same_cost (limit.Weight a) (limit.Weight b) g ks same = refl
same_cost limit.Free (limit.Steps b) g ks same = absurd (omega (arith, same))
same_cost limit.Free (limit.Weight b) g ks same = absurd (omega (arith, same))
same_cost (limit.Steps a) limit.Free g ks same = absurd (omega (arith, same))
same_cost (limit.Steps a) (limit.Weight b) g ks same = absurd (omega (arith, same))
same_cost (limit.Weight a) limit.Free g ks same = absurd (omega (arith, same))
same_cost (limit.Weight a) (limit.Steps b) g ks same = absurd (omega (arith, same))

-- ---- what walks of a tree cost

tree_cost : (g : Digraph) (P : List Bool) (u : ℕ) (xs : List Arrival) (limit : Limit) (labels : List ℕ) (n i v total : ℕ) (ks : List ℕ) → IsTree g P u xs
    → ((k : ℕ) → RestsOn xs k → label_of labels (edge_at g k).from + cost_of limit (edge_at g k) ≤ label_of labels (edge_at g k).to)
    → i < n → i < length xs → IsTrue (is_walk g P (arrival_at xs i).node v ks) → label_of labels (arrival_at xs i).node + cost_along limit g ks ≤ total
    → (js : List ℕ) × IsTrue (is_walk g P u v js) × (cost_along limit g js ≤ total)
tree_cost g P u xs limit labels zero i v total ks t rise low lt h le = absurd (omega arith)
tree_cost g P u xs limit labels (suc n) zero v total ks t rise low lt h le = (ks, subst (λ (w : ℕ). IsTrue (is_walk g P w v ks)) t.source h, omega arith)
tree_cost g P u xs limit labels (suc n) (suc i) v total ks t rise low lt h le =
    let a : Arrival = arrival_at xs (suc i) in
    let l = t.led (suc i) (omega arith) lt in
    let b : a.before < suc i = l.before in
    let up : label_of labels (edge_at g a.place).from + cost_of limit (edge_at g a.place) ≤ label_of labels (edge_at g a.place).to = rise a.place (suc i, omega arith, lt, refl) in
    let sums : cost_along limit g (a.place ∷ ks) ≡ cost_of limit (edge_at g a.place) + cost_along limit g ks = sum_by-cons (λ j. cost_of limit (edge_at g j)) a.place ks in
    let from : label_of labels (edge_at g a.place).from ≡ label_of labels (arrival_at xs a.before).node = ap (λ (w : ℕ). label_of labels w) l.from in
    let to : label_of labels (edge_at g a.place).to ≡ label_of labels a.node = ap (λ (w : ℕ). label_of labels w) l.to in
    tree_cost g P u xs limit labels n a.before v total (a.place ∷ ks) t rise (omega arith) (omega arith)
    (walk_front g P (arrival_at xs a.before).node a.node v a.place ks h l.known l.present l.from l.to)
    (omega (arith, up, sums, from, to, le))

priced_walk : (g : Digraph) (P : List Bool) (v : ℕ) (w : Ways) → IsTree g P w.tree.source w.tree.arrivals → IsPriced g w → IsTrue (is_reached w.tree.arrivals v)
    → (ks : List ℕ) × IsTrue (is_walk g P w.tree.source v ks) × (cost_along w.limit g ks ≤ label_of w.labels v)
priced_walk g P v w t priced h =
    let xs : List Arrival = w.tree.arrivals in
    let r = reached_index xs v h in
    let at : label_of w.labels (arrival_at xs r.0).node ≡ label_of w.labels v = ap (λ (x : ℕ). label_of w.labels x) r.2 in
    tree_cost g P w.tree.source xs w.limit w.labels (suc r.0) r.0 v (label_of w.labels v) [] t priced.each (omega arith) r.1
    (subst (λ (x : ℕ). IsTrue (is_walk g P (arrival_at xs r.0).node x [])) r.2 (walk_none g P (arrival_at xs r.0).node))
    (omega (arith, at))

-- a walk within its bound leads to each target that the tree has
pub has_leads : (g : Digraph) (P : List Bool) (t : WalkTarget) (w : Ways) → IsTree g P w.tree.source w.tree.arrivals → IsPriced g w → measure_of t.limit ≡ measure_of w.limit → IsTrue (has_target w t)
    → (ks : List ℕ) × IsTrue (is_path g P w.tree.source t.node t.limit ks)
has_leads g P t w tree priced alike h =
    let parts = and_parts (is_reached w.tree.arrivals t.node) (admits t.limit (label_of w.labels t.node)) h in
    let r = priced_walk g P t.node w tree priced parts.0 in
    let same = same_cost t.limit w.limit g r.0 alike in
    let le : cost_along t.limit g r.0 ≤ label_of w.labels t.node = (let low = r.2 in omega (arith, low, same)) in
    (r.0, and_from (is_walk g P w.tree.source t.node r.0) (is_light t.limit g r.0) r.1 (light_of t.limit g r.0 (low_enough (cost_along t.limit g r.0) (label_of w.labels t.node) (bound_of t.limit) le parts.1)))

-- ---- the part of the lightest edges

light_all : (g : Digraph) (P T : List Bool) (limit : Limit) (cap : ℕ) (labels : List ℕ) → AreLightest g P limit cap labels T → EachTight g P limit labels → (u v : ℕ) (ks : List ℕ)
    → IsTrue (list_all (is_place g) ks) → IsTrue (list_all (present P) ks) → IsTrue (leads g u ks v) → label_of labels v ≡ label_of labels u + cost_along limit g ks → label_of labels v < cap → IsTrue (list_all (present T) ks)
light_all g P T limit cap labels light t u v [] known here way e below = refl
light_all g P T limit cap labels light t u v (k ∷ ks) known here way e below =
    let q = and_parts (is_place g k) (list_all (is_place g) ks) known in
    let p = and_parts (present P k) (list_all (present P) ks) here in
    let w = and_parts ((edge_at g k).from == u) (leads g (edge_at g k).to ks v) way in
    let lt : k < length g.edges = ltb-true k (length g.edges) q.0 in
    let from : label_of labels (edge_at g k).from ≡ label_of labels u = ap (λ (x : ℕ). label_of labels x) (eqb-true (edge_at g k).from u w.0) in
    let step : label_of labels (edge_at g k).to ≤ label_of labels (edge_at g k).from + cost_of limit (edge_at g k) = t.each k lt p.0 in
    let rest : label_of labels v ≤ label_of labels (edge_at g k).to + cost_along limit g ks = bounded g P limit labels t (edge_at g k).to v ks q.1 p.1 w.1 in
    let sums : cost_along limit g (k ∷ ks) ≡ cost_of limit (edge_at g k) + cost_along limit g ks = sum_by-cons (λ j. cost_of limit (edge_at g j)) k ks in
    let gives : label_of labels (edge_at g k).to ≡ label_of labels (edge_at g k).from + cost_of limit (edge_at g k) = omega (arith, from, step, rest, sums, e) in
    and_from (present T k) (list_all (present T) ks)
    (light.each k lt (omega (arith, from, e, below)) (and_from (present P k) (gives_label limit labels (edge_at g k)) p.0 (eq-eqb (label_of labels (edge_at g k).to) (label_of labels (edge_at g k).from + cost_of limit (edge_at g k)) gives)))
    (light_all g P T limit cap labels light t (edge_at g k).to v ks q.1 p.1 w.1 (omega (arith, from, step, rest, sums, e)) below)

-- a node with a label below the cap is the source, or one of its changes gave it that label
pub lightest_found : (g : Digraph) (P T : List Bool) (u n : ℕ) (c : Costs) → HasNodes g → AreCostsFrom g.nodes u c
    → ((v : ℕ) → v < length c.labels → (last : ℕ) × IsLast c.changes (length c.changes) v (label_of c.labels v) last) → length c.changes ≤ n → length T ≡ length g.edges
    → ((k : ℕ) → IsTrue (present T k) → IsTrue (is_lightest g P c.limit c.labels k))
    → ((k : ℕ) → k < length g.edges → (edge_at g k).from ≡ u → IsTrue (is_lightest g P c.limit c.labels k) → IsTrue (present T k))
    → ((j k : ℕ) → j < n → (change_at c.changes j).label ≡ label_of c.labels (change_at c.changes j).node → k < length g.edges → (edge_at g k).from ≡ (change_at c.changes j).node → IsTrue (is_lightest g P c.limit c.labels k) → IsTrue (present T k))
    → AreLightest g P c.limit c.cap c.labels T
lightest_found g P T u n c ends from last all size only source each = record {
  len = size;
  only = λ k lt here. only k here;
  each = λ k lt below h. elim (cases_eq (edge_at g k).from u) [
    | inl at ↦ source k lt at h
    | inr other ↦ elsewhere k lt below h other
  ];
}
  where
    unchanged : (v : ℕ) → IsLast c.changes (length c.changes) v (label_of c.labels v) 0 → has (map (λ (x : Change). x.node) c.changes) v ≡ false
    unchanged v l = false_from_ne_true (has (map (λ (x : Change). x.node) c.changes) v) (λ there.
        let r = index_of (map (λ (x : Change). x.node) c.changes) v there in
        let lt : r.0 < length c.changes = (let low = r.1 in omega (arith, low, length-map c.changes (λ (x : Change). x.node))) in
        l.none r.0 (omega arith) lt (sym (get_or-map (λ (x : Change). x.node) c.changes r.0 no_change 0 lt) ∙ r.2))

    elsewhere : (k : ℕ) → k < length g.edges → label_of c.labels (edge_at g k).from < c.cap → IsTrue (is_lightest g P c.limit c.labels k) → ((edge_at g k).from ≡ u → ⊥) → IsTrue (present T k)
    elsewhere k lt below h other =
        let v : ℕ = (edge_at g k).from in
        let inside : v < g.nodes = ends.from k lt in
        let x = last v (let len = from.len in omega (arith, inside, len)) in
        elim (cases_eq x.0 0) [
          | inl none ↦
              let same : label_of (unwound c.labels c.changes) v ≡ label_of c.labels v = unwound_other c.labels c.changes v (unchanged v (subst (λ (m : ℕ). IsLast c.changes (length c.changes) v (label_of c.labels v) m) none x.1)) in
              let first : label_of (unwound c.labels c.changes) v ≡ c.cap = ap (λ (ls : List ℕ). label_of ls v) from.first ∙ first_other g.nodes u v c.cap inside other in
              absurd (omega (arith, same, first, below))
          | inr some ↦
              let positive : 0 < x.0 = omega (arith, some) in
              let is = x.1.is positive in
              let held = x.1.held in
              each (x.0 - 1) k (omega (arith, positive, held, all)) (is.1 ∙ ap (λ (w : ℕ). label_of c.labels w) (sym is.0)) lt (sym is.0) h
        ]

pub light_of_least : (g : Digraph) (P T : List Bool) (u : ℕ) (c : Costs) → HasNodes g → AreLeast g P c.limit u c.cap c.labels → AreLightest g P c.limit c.cap c.labels T → IsLight g P T u (Some c)
light_of_least g P T u c ends least light = record {
  gives = light.only;
  least = least.least;
  lead = λ v ks inside h below.
      let w = least.attained.walk v inside below in
      let x = walks g P u v w.0 w.1 in
      let source : label_of c.labels u ≤ 0 = least.least u [] (walk_none g P u) in (
        w.0,
        is_walk_of g T u v w.0 (record {
          known = x.known;
          here = light_all g P T c.limit c.cap c.labels light (each_tight g P c.limit u c.cap c.labels ends least) u v w.0 x.known x.here x.way (let cost = w.2 in omega (arith, source, cost)) below;
          way = x.way;
        }),
      );
}

-- where walks cost nothing, all edges are
pub light_of_all : (g : Digraph) (P : List Bool) (u : ℕ) → IsLight g P P u None
light_of_all g P u = record {
  gives = λ k lt here. and_from (present P k) (gives_label limit.Free [] (edge_at g k)) here refl;
  least = λ v ks h. omega arith;
  lead = λ v ks inside h below. (ks, h);
}

-- ---- the ways that a search finds

pub asked_inside : (w : Ways) (targets : List WalkTarget) (labels nodes : List ℕ) (n : ℕ) → All (IsTargetOf w) targets → AreAsked labels targets nodes → w.tree.nodes ≡ n → All (λ v. v < n) nodes
asked_inside w targets labels nodes n fit asked size = λ k d lt.
    let o = asked.only (get_or nodes k d) (has_get_or nodes k d lt) in
    let known : o.0.node < w.tree.nodes = subst (λ (t : WalkTarget). t.node < w.tree.nodes) o.1.2 (fit o.1.0 no_target o.1.1).known in
    omega (arith, known, size, o.3)

-- a target is one whatever labels are found
pub targets_stay : (kept : Reached) (old new : Option Costs) (targets : List WalkTarget) → limit_in new ≡ limit_in old → cap_in new ≡ cap_in old → All (IsTargetOf (ways_of kept old)) targets → All (IsTargetOf (ways_of kept new)) targets
targets_stay kept old new targets limit cap fit = λ i d lt.
    let t = fit i d lt in
    record {
      known = t.known;
      alike = t.alike ∙ ap measure_of (sym limit);
      below = subst (λ (n : ℕ). int_lt (bound_of (get_or targets i d).limit) (pos n) ≡ true) (sym cap) t.below;
    }

pub ways_reached : (g : Digraph) (P T : List Bool) (targets : List WalkTarget) (nodes : List ℕ) (kept new : Reached) (costs : Option Costs) → IsLight g P T kept.source costs → AreAsked (labels_in costs) targets nodes
    → All (IsTargetOf (ways_of kept costs)) targets → kept.nodes ≡ g.nodes → new.source ≡ kept.source → IsMendedTree g T kept.source nodes new.arrivals → AreReachedWays g P targets (ways_of new costs)
ways_reached g P T targets nodes kept new costs light asked fit size source s = record {
  tree = subst (λ (u : ℕ). IsTree g P u new.arrivals) (sym source) tree;
  priced = priced;
  exact = λ i d lt. (
    λ h. has_leads g P (get_or targets i d) (ways_of new costs) (subst (λ (u : ℕ). IsTree g P u new.arrivals) (sym source) tree) priced (fit i d lt).alike h,
    λ path. exact i d lt (path.0, subst (λ (u : ℕ). IsTrue (is_path g P u (get_or targets i d).node (get_or targets i d).limit path.0)) source path.1),
  );
}
  where
    gives : (k : ℕ) → RestsOn new.arrivals k → IsTrue (present P k) × IsTrue (gives_label (limit_in costs) (labels_in costs) (edge_at g k))
    gives k r =
        let l = s.tree.led r.0 r.1 r.2 in
        let known : k < length g.edges = subst (λ (j : ℕ). j < length g.edges) r.3 l.known in
        let here : IsTrue (present T k) = subst (λ (j : ℕ). IsTrue (present T j)) r.3 l.present in
        and_parts (present P k) (gives_label (limit_in costs) (labels_in costs) (edge_at g k)) (light.gives k known here)

    tree : IsTree g P kept.source new.arrivals
    tree = tree_stays g T P kept.source new.arrivals (λ k r. (gives k r).0) s.tree

    priced : IsPriced g (ways_of new costs)
    priced = record {
      each = λ k r.
          let e = eqb-true (label_of (labels_in costs) (edge_at g k).to) (label_of (labels_in costs) (edge_at g k).from + cost_of (limit_in costs) (edge_at g k)) (gives k r).1 in
          omega (arith, e);
    }

    exact : (i : ℕ) (d : WalkTarget) → i < length targets → (ks : List ℕ) × IsTrue (is_path g P kept.source (get_or targets i d).node (get_or targets i d).limit ks) → IsTrue (has_target (ways_of new costs) (get_or targets i d))
    exact i d lt path =
        let t : WalkTarget = get_or targets i d in
        let fits = fit i d lt in
        let a = and_parts (is_walk g P kept.source t.node path.0) (is_light t.limit g path.0) path.1 in
        let same = same_cost t.limit (limit_in costs) g path.0 fits.alike in
        let least = light.least t.node path.0 a.0 in
        let within : IsTrue (admits t.limit (label_of (labels_in costs) t.node)) =
        low_enough (label_of (labels_in costs) t.node) (cost_along t.limit g path.0) (bound_of t.limit) (omega (arith, same, least)) (of_light t.limit g path.0 a.1) in
        let below = under_cap (label_of (labels_in costs) t.node) (cap_in costs) (bound_of t.limit) within fits.below in
        let inside : t.node < g.nodes = (let known = fits.known in omega (arith, known, size)) in
        let way = light.lead t.node path.0 inside a.0 below in
        and_from (is_reached new.arrivals t.node) (admits t.limit (label_of (labels_in costs) t.node)) ((s.exact t.node (asked.each i d lt within)).1 way) within

pub ways_found : (g : Digraph) (P T : List Bool) (targets : List WalkTarget) (nodes : List ℕ) (kept new : Reached) (costs : Option Costs) → IsLight g P T kept.source costs → AreAsked (labels_in costs) targets nodes
    → All (IsTargetOf (ways_of kept costs)) targets → kept.nodes ≡ g.nodes → new.source ≡ kept.source → IsSearchTree g T kept.source nodes new.arrivals → AreWaysTo g P targets (ways_of new costs)
ways_found g P T targets nodes kept new costs light asked fit size source s =
    let w = ways_reached g P T targets nodes kept new costs light asked fit size source (record { tree = s.tree; exact = s.exact }) in
    record {
      tree = w.tree;
      priced = w.priced;
      exact = w.exact;
      needed = λ i some lt. elim (s.needed.each i some lt) [
        | inl there ↦
            let o = asked.only (arrival_at new.arrivals i).node there in
            inl (o.0, o.1, and_from (is_reached new.arrivals o.0.node) (admits o.0.limit (label_of (labels_in costs) o.0.node)) (subst (λ (v : ℕ). IsTrue (is_reached new.arrivals v)) (sym o.3) (reached_here new.arrivals i lt)) o.2, o.3)
        | inr leads ↦ inr leads
      ];
    }

pub reached_of_ways : (g : Digraph) (P : List Bool) (targets : List WalkTarget) (w : Ways) → AreWaysTo g P targets w → AreReachedWays g P targets w
reached_of_ways g P targets w s = record { tree = s.tree; priced = s.priced; exact = s.exact }

-- ---- while edges go and come

pub ways_stay : (g : Digraph) (P Q : List Bool) (targets : List WalkTarget) (w : Ways) → All (IsTargetOf w) targets → IsSubpart Q P → ((k : ℕ) → RestsOn w.tree.arrivals k → IsTrue (present Q k)) → AreWaysTo g P targets w → AreWaysTo g Q targets w
ways_stay g P Q targets w fit sub edges s =
    let tree = tree_stays g P Q w.tree.source w.tree.arrivals edges s.tree in
    record {
      tree = tree;
      priced = s.priced;
      exact = λ i d lt. (
        λ there. has_leads g Q (get_or targets i d) w tree s.priced (fit i d lt).alike there,
        λ path. (s.exact i d lt).1 (path.0, is_path-larger g Q P sub w.tree.source (get_or targets i d).node (get_or targets i d).limit path.0 path.1),
      );
      needed = s.needed;
    }

-- where they lack no target, they stay in each greater part too
pub whole_ways_stay : (g : Digraph) (P Q : List Bool) (targets : List WalkTarget) (w : Ways) → All (IsTargetOf w) targets → IsSubpart P Q → All (λ t. IsTrue (has_target w t)) targets → AreWaysTo g P targets w → AreWaysTo g Q targets w
whole_ways_stay g P Q targets w fit sub all s =
    let tree = tree_stays g P Q w.tree.source w.tree.arrivals (λ k r. sub.keeps k (subst (λ (j : ℕ). IsTrue (present P j)) r.3 (s.tree.led r.0 r.1 r.2).present)) s.tree in
    record {
      tree = tree;
      priced = s.priced;
      exact = λ i d lt. (λ there. has_leads g Q (get_or targets i d) w tree s.priced (fit i d lt).alike there, λ _. all i d lt);
      needed = s.needed;
    }

-- ---- before any search

pub first_fits : (n : ℕ) (s : CostSource) (t : WalkTarget) → t.node < n → measure_of t.limit ≡ measure_of s.limit → int_lt (bound_of t.limit) (pos s.cap) ≡ true → IsTargetOf (first_ways n s) t
first_fits n s t known alike below = fits s.limit refl
  where
    free : (l : Limit) → measure_of l ≡ 0 → int_lt (bound_of l) (pos 1) ≡ true
    free limit.Free e = refl
    free (limit.Steps a) e = absurd (omega (arith, e))
    free (limit.Weight a) e = absurd (omega (arith, e))

    fits : (l : Limit) → s.limit ≡ l → IsTargetOf (first_ways n s) t
    fits limit.Free e = subst (λ (l : Limit). IsTargetOf (ways_of (alone n s.node) (cond (measure_of l == 0) None (Some (costs_from n s)))) t) (sym e)
        (record { known = known; alike = alike ∙ ap measure_of e; below = free t.limit (alike ∙ ap measure_of e) })
    fits (limit.Steps a) e = subst (λ (l : Limit). IsTargetOf (ways_of (alone n s.node) (cond (measure_of l == 0) None (Some (costs_from n s)))) t) (sym e)
        (record { known = known; alike = alike; below = below })
    fits (limit.Weight a) e = subst (λ (l : Limit). IsTargetOf (ways_of (alone n s.node) (cond (measure_of l == 0) None (Some (costs_from n s)))) t) (sym e)
        (record { known = known; alike = alike; below = below })
