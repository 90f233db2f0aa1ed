-- Labels along which each present edge is tight are the least costs, after each number of steps.
use Rattle.std.proofs.Common.{◌≡◌, ℕ, ◌+◌, ◌-◌, ◌<◌, ◌≤◌, Bool, false, List, [], ◌∷◌, ◌++◌, length, set, take, drop, replicate, refl, sym, ap, subst, ◌∙◌, inl, inr, arith}
use Rattle.std.specs.Prelude.{IsTrue, All, ◌==◌}
use Rattle.std.specs.List.{list_all}
use Rattle.std.proofs.lemmas.Bool.{cases_lt, cases_eq, or_cases, or_left, and_from, and_parts, eqb-true, both_ways, ltb-true}
use Rattle.std.proofs.lemmas.List.{length-set, length-replicate, get_or-replicate, get_or-set_same, get_or-set_other, get_or_past, get_or-take, get_or_append_left, get_or-append_right, length-append, length-take, take-append-drop}
use Rattle.std.proofs.lemmas.List.Sums.{sum_by_push, sum_by-cons}
use Rattle.std.proofs.lemmas.List.Elements.{All-nil}
use Rattle.mono_graph.specs.declared.limit.Limit.{Limit}
use Rattle.mono_graph.specs.Digraph.{Digraph, edge_at, present, has, is_place, leaving}
use Rattle.mono_graph.proofs.Membership.{at_places}
use Rattle.mono_graph.specs.Walks.{is_walk, leads, cost_of, cost_along}
use Rattle.mono_dynamic.specs.declared.change.Change.{Change}
use Rattle.mono_dynamic.specs.Arrivals.{IsGrown, GrowsAfter}
use Rattle.mono_dynamic.specs.Costs.{Costs, label_of, AreAttained, AreLeast, AreLeastAlong, IsTight, AreTight, AreRelaxed, IsLater, unwound, made_by, made_after, labels_after, no_change, change_at, IsLed, AreLed}
use Rattle.mono_dynamic.specs.Ways.{AreCostsFrom}
use Rattle.mono_graph.proofs.GrownWalks.{walks, is_walk_of, walk_push, walk_none}
use Rattle.mono_dynamic.proofs.CostWalks.{led_same, led_grown}
use Rattle.mono_dynamic.proofs.CostLists.{after_none, after_parts, by_latest, unwound-append, later_earlier}

pub record EachTight (g : Digraph) (P : List Bool) (limit : Limit) (labels : List ℕ) : Type 0 where
  pub each : (k : ℕ) → k < length g.edges → IsTrue (present P k) → IsTight g limit labels k

pub bounded : (g : Digraph) (P : List Bool) (limit : Limit) (labels : List ℕ) → EachTight g P limit labels → (u v : ℕ) (ks : List ℕ)
    → IsTrue (list_all (is_place g) ks) → IsTrue (list_all (present P) ks) → IsTrue (leads g u ks v) → label_of labels v ≤ label_of labels u + cost_along limit g ks
bounded g P limit labels t u v [] known here way = subst (λ (w : ℕ). label_of labels w ≤ label_of labels u + 0) (eqb-true u v way) (omega arith)
bounded g P limit labels t u v (k ∷ ks) known here way =
    let q = and_parts (is_place g k) (list_all (is_place g) ks) known in
    let p = and_parts (present P k) (list_all (present P) ks) here in
    let w = and_parts ((edge_at g k).from == u) (leads g (edge_at g k).to ks v) way in
    let step : label_of labels (edge_at g k).to ≤ label_of labels u + cost_of limit (edge_at g k) =
    subst (λ (x : ℕ). label_of labels (edge_at g k).to ≤ label_of labels x + cost_of limit (edge_at g k)) (eqb-true (edge_at g k).from u w.0) (t.each k (ltb-true k (length g.edges) q.0) p.0) in
    let rest : label_of labels v ≤ label_of labels (edge_at g k).to + cost_along limit g ks = bounded g P limit labels t (edge_at g k).to v ks q.1 p.1 w.1 in
    let sums : cost_along limit g (k ∷ ks) ≡ cost_of limit (edge_at g k) + cost_along limit g ks = sum_by-cons (λ j. cost_of limit (edge_at g j)) k ks in
    omega (arith, step, rest, sums)

-- labels that are attained and along which each present edge is tight are the least costs
pub least_of : (g : Digraph) (P : List Bool) (limit : Limit) (u most : ℕ) (labels : List ℕ) → length labels ≡ g.nodes → ((v : ℕ) → label_of labels v ≤ most) → label_of labels u ≡ 0 → EachTight g P limit labels
    → AreAttained g P limit u most labels → AreLeast g P limit u most labels
least_of g P limit u most labels len low source tight a = record {
  len = len;
  most = low;
  least = λ v ks h.
      let x = walks g P u v ks h in
      let far = bounded g P limit labels tight u v ks x.known x.here x.way in
      omega (arith, far, source);
  attained = a;
}

all_grown : (P Q : List Bool) (js ks : List ℕ) → IsGrown P Q js → IsTrue (list_all (present P) ks) → IsTrue (list_all (present Q) ks)
all_grown P Q js [] grown h = refl
all_grown P Q js (k ∷ ks) grown h =
    let p = and_parts (present P k) (list_all (present P) ks) h in
    and_from (present Q k) (list_all (present Q) ks) (grown.each k ∙ or_left (present P k) (has js k) p.0) (all_grown P Q js ks grown p.1)

attained_grown : (g : Digraph) (P Q : List Bool) (limit : Limit) (u most : ℕ) (labels js : List ℕ) → IsGrown P Q js → AreAttained g P limit u most labels → AreAttained g Q limit u most labels
attained_grown g P Q limit u most labels js grown a = record {
  walk = λ v lt below.
      let w = a.walk v lt below in
      let x = walks g P u v w.0 w.1 in
      (w.0, is_walk_of g Q u v w.0 (record { known = x.known; here = all_grown P Q js w.0 grown x.here; way = x.way }), w.2);
}

-- each edge of a graph leads from a node to a node
pub record HasNodes (g : Digraph) : Type 0 where
  pub from : (k : ℕ) → k < length g.edges → (edge_at g k).from < g.nodes

-- least costs rise along each present edge by at most what it costs
pub each_tight : (g : Digraph) (P : List Bool) (limit : Limit) (u most : ℕ) (labels : List ℕ) → HasNodes g → AreLeast g P limit u most labels → EachTight g P limit labels
each_tight g P limit u most labels ends l = record {
  each = λ k lt here. elim (cases_lt (label_of labels (edge_at g k).from) most) [
    | inl low ↦
        let w = l.attained.walk (edge_at g k).from (ends.from k lt) low in
        let cost : cost_along limit g (w.0 ++ k ∷ []) ≡ cost_along limit g w.0 + cost_of limit (edge_at g k) = sum_by_push (λ (j : ℕ). cost_of limit (edge_at g j)) w.0 k in
        let far = l.least (edge_at g k).to (w.0 ++ k ∷ []) (walk_push g P u (edge_at g k).from k w.0 w.1 lt here refl) in
        omega (arith, far, cost, w.2)
    | inr high ↦ let top = l.most (edge_at g k).to in omega arith
  ];
}

tight_start : (g : Digraph) (P Q : List Bool) (limit : Limit) (u most : ℕ) (labels js : List ℕ) → HasNodes g → IsGrown P Q js → AreLeast g P limit u most labels → AreTight g Q limit most labels [] js
tight_start g P Q limit u most labels js ends grown l = record {
  each = λ k lt here. elim (or_cases (present P k) (has js k) (sym (grown.each k) ∙ here)) [
    | inl old ↦ inl (inl ((each_tight g P limit u most labels ends l).each k lt old))
    | inr due ↦ inr due
  ];
}

-- labels that were attained and lowered until each present edge is tight are the least costs
least_lowered : (g : Digraph) (P : List Bool) (u : ℕ) (js : List ℕ) (old new : Costs) → length new.labels ≡ g.nodes → ((v : ℕ) → label_of old.labels v ≤ old.cap) → label_of old.labels u ≤ 0
    → AreAttained g P old.limit u old.cap old.labels → AreTight g P old.limit old.cap old.labels [] js → AreRelaxed g P js [] old new [] [] [] → AreLeast g P old.limit u old.cap new.labels
least_lowered g P u js old new len most source a t r = record {
  len = len;
  most = λ v. (let a = r.lower v in let b = most v in omega arith);
  least = λ v ks h.
      let x = walks g P u v ks h in
      let far = bounded g P old.limit new.labels tight u v ks x.known x.here x.way in
      let a = r.lower u in
      omega (arith, far, a, source);
  attained = r.attained u a;
}
  where
    tight : EachTight g P old.limit new.labels
    tight = record {
      each = λ k lt here. elim ((r.tight t).each k lt here) [
        | inl done ↦ elim done [
          | inl t ↦ t
          | inr waits ↦ absurd cc
        ]
        | inr none ↦ absurd cc
      ];
    }

pub least_relaxed : (g : Digraph) (P Q : List Bool) (u : ℕ) (js : List ℕ) (old new : Costs) → HasNodes g → length new.labels ≡ length old.labels → IsGrown P Q js → AreRelaxed g Q js [] old new [] [] []
    → AreLeast g P old.limit u old.cap old.labels → AreLeast g Q old.limit u old.cap new.labels
least_relaxed g P Q u js old new ends len grown r l =
    least_lowered g Q u js old new (len ∙ l.len) l.most (l.least u [] (walk_none g P u)) (attained_grown g P Q old.limit u old.cap old.labels js grown l.attained) (tight_start g P Q old.limit u old.cap old.labels js ends grown l) r

-- ---- a search from nothing

pub first_source : (n u most : ℕ) → u < n → label_of (set (replicate n most) u 0) u ≡ 0
first_source n u most inside = get_or-set_same (replicate n most) u 0 0 (omega (arith, length-replicate n most))

pub first_other : (n u v most : ℕ) → v < n → (v ≡ u → ⊥) → label_of (set (replicate n most) u 0) v ≡ most
first_other n u v most lt other = get_or-set_other (replicate n most) u v 0 0 other ∙ get_or-replicate n v most 0 lt

first_most : (n u v most : ℕ) → u < n → label_of (set (replicate n most) u 0) v ≤ most
first_most n u v most inside = elim (cases_eq v u) [
  | inl at ↦ subst (λ (w : ℕ). label_of (set (replicate n most) u 0) w ≤ most) (sym at) (omega (arith, first_source n u most inside))
  | inr other ↦ elim (cases_lt v n) [
    | inl lt ↦ omega (arith, first_other n u v most lt other)
    | inr past ↦ omega (arith, get_or_past (set (replicate n most) u 0) v 0 (omega (arith, past, length-set (replicate n most) u 0, length-replicate n most)))
  ]
]

first_attained : (g : Digraph) (P : List Bool) (limit : Limit) (u most : ℕ) → u < g.nodes → AreAttained g P limit u most (set (replicate g.nodes most) u 0)
first_attained g P limit u most inside = record {
  walk = λ v lt below. elim (cases_eq v u) [
    | inl at ↦ subst (λ (w : ℕ). (ks : List ℕ) × IsTrue (is_walk g P u w ks) × (cost_along limit g ks ≡ label_of (set (replicate g.nodes most) u 0) w)) (sym at) ([], walk_none g P u, sym (first_source g.nodes u most inside))
    | inr other ↦ absurd (omega (arith, first_other g.nodes u v most lt other, below))
  ];
}

first_tight : (g : Digraph) (P : List Bool) (limit : Limit) (u most : ℕ) → HasNodes g → u < g.nodes → AreTight g P limit most (set (replicate g.nodes most) u 0) [] (leaving g u)
first_tight g P limit u most ends inside = record {
  each = λ k lt here. elim (cases_eq (edge_at g k).from u) [
    | inl at ↦ inr (at_places (λ e. e.from) g u k lt at)
    | inr other ↦ inl (inl (omega (arith, first_other g.nodes u (edge_at g k).from most (ends.from k lt) other, first_most g.nodes u (edge_at g k).to most inside)))
  ];
}

pub least_anew : (g : Digraph) (P : List Bool) (u stamp : ℕ) (old new : Costs) → HasNodes g → u < g.nodes → old.labels ≡ set (replicate g.nodes old.cap) u 0 → IsLater stamp old new → AreRelaxed g P (leaving g u) [] old new [] [] []
    → AreLeast g P old.limit u old.cap new.labels
least_anew g P u stamp old new ends inside first later r =
    let size : length new.labels ≡ g.nodes = later.len ∙ (ap length first ∙ (length-set (replicate g.nodes old.cap) u 0 ∙ length-replicate g.nodes old.cap)) in
    least_lowered g P u (leaving g u) old new size
    (λ v. subst (λ (ls : List ℕ). label_of ls v ≤ old.cap) (sym first) (first_most g.nodes u v old.cap inside))
    (subst (λ (ls : List ℕ). label_of ls u ≤ 0) (sym first) (omega (arith, first_source g.nodes u old.cap inside)))
    (subst (λ (ls : List ℕ). AreAttained g P old.limit u old.cap ls) (sym first) (first_attained g P old.limit u old.cap inside))
    (subst (λ (ls : List ℕ). AreTight g P old.limit old.cap ls [] (leaving g u)) (sym first) (first_tight g P old.limit u old.cap ends inside)) r

-- once what a search lowered is taken back, all is as before it
pub from_later : (n u stamp : ℕ) (old new : Costs) → u < n → old.labels ≡ set (replicate n old.cap) u 0 → old.changes ≡ [] → IsLater stamp old new → AreCostsFrom n u new
from_later n u stamp old new inside first none later = record {
  inside = inside;
  len = later.len ∙ (ap length first ∙ (length-set (replicate n old.cap) u 0 ∙ length-replicate n old.cap));
  first = ap (λ (cs : List Change). unwound new.labels cs) (later.changes ∙ ap (λ (cs : List Change). cs ++ later.added) none) ∙ (later.back ∙ (first ∙ ap (λ (c : ℕ). set (replicate n c) u 0) (sym later.cap)));
}

-- ---- after each number of steps

whole_labels : (n : ℕ) (t : Costs) → All (λ (c : Change). c.stamp ≤ n) t.changes → labels_after n t ≡ t.labels
whole_labels n t latest = ap (λ (cs : List Change). unwound t.labels cs) (after_none n t.changes latest)

-- the edge of each change is present in the grown part
led_start : (g : Digraph) (parts : ℕ → List Bool) (n u : ℕ) (t : Costs) (Q : List Bool) (ks : List ℕ) → AreLeastAlong g parts n u t → IsGrown (parts n) Q ks → AreLed g Q u t
led_start g parts n u t Q ks r grown = record {
  source = r.source;
  each = λ i lt. led_grown g (parts n) Q t.limit u t.changes ks i grown (r.led n i (omega arith) lt (r.latest i no_change lt));
}

-- and as long as the part stays as it is
led_still : (g : Digraph) (parts : ℕ → List Bool) (n m u : ℕ) (t : Costs) → AreLeastAlong g parts n u t → (n ≤ m → parts m ≡ parts n) → (i : ℕ) → i < length t.changes → (change_at t.changes i).stamp ≤ m → IsLed g (parts m) t.limit u t.changes i
led_still g parts n m u t r still i lt early = elim (cases_lt n m) [
  | inl past ↦ subst (λ (P : List Bool). IsLed g P t.limit u t.changes i) (sym (still (omega arith))) (r.led n i (omega arith) lt (r.latest i no_change lt))
  | inr low ↦ r.led m i low lt early
]

-- an early change was there before
later_old : (stamp m i : ℕ) (a b : Costs) → IsLater stamp a b → m < stamp → i < length b.changes → (change_at b.changes i).stamp ≤ m → (i < length a.changes) × ((j : ℕ) → j ≤ i → change_at b.changes j ≡ change_at a.changes j)
later_old stamp m i a b x less lt early =
    let low : i < length a.changes = elim (cases_lt i (length a.changes)) [
      | inl low ↦ low
      | inr high ↦
          let size : length b.changes ≡ length a.changes + length x.added = ap (λ (cs : List Change). length cs) x.changes ∙ length-append a.changes x.added in
          let at : change_at b.changes i ≡ change_at x.added (i - length a.changes) = ap (λ (cs : List Change). change_at cs i) x.changes ∙ get_or-append_right a.changes x.added (length a.changes) i no_change refl high in
          let stamp : (change_at x.added (i - length a.changes)).stamp ≡ stamp = x.stamps (i - length a.changes) no_change (omega arith) in
          let same : (change_at b.changes i).stamp ≡ (change_at x.added (i - length a.changes)).stamp = ap (λ (c : Change). c.stamp) at in
          absurd (omega arith)
    ] in
    (low, λ j le. ap (λ (cs : List Change). change_at cs j) x.changes ∙ get_or_append_left a.changes x.added no_change j (omega arith))

pub least_along_grown : (g : Digraph) (parts : ℕ → List Bool) (n last u : ℕ) (old new : Costs) (Q : List Bool) (ks : List ℕ) → AreLeastAlong g parts n u old → GrowsAfter parts n last Q ks
    → IsLater last old new → All (λ (c : Change). c.stamp ≤ last) new.changes
    → ((P : List Bool) → AreLeast g P old.limit u old.cap old.labels → IsGrown P Q ks → AreLeast g Q old.limit u old.cap new.labels)
    → (label_of old.labels u ≡ 0 → AreLed g Q u old → AreLed g Q u new)
    → AreLeastAlong g parts last u new
least_along_grown g parts n last u old new Q ks r grows later stamps grown led =
    let source : label_of old.labels u ≡ 0 = (let low = (r.each n (omega arith)).least u [] (walk_none g (parts n) u) in omega (arith, low, ap (λ (ls : List ℕ). label_of ls u) (whole_labels n old r.latest))) in
    let now : AreLed g Q u new = led source (led_start g parts n u old Q ks r grows.grown) in
    let whole : AreLeast g (parts n) old.limit u old.cap old.labels = subst (λ (ls : List ℕ). AreLeast g (parts n) old.limit u old.cap ls) (whole_labels n old r.latest) (r.each n (omega arith)) in
    record {
      each = λ m le.
          subst (λ (l : Limit). AreLeast g (parts m) l u new.cap (labels_after m new)) (sym later.limit)
          (subst (λ (x : ℕ). AreLeast g (parts m) old.limit u x (labels_after m new)) (sym later.cap)
          (elim (cases_lt m last) [
            | inl less ↦ subst (λ (ls : List ℕ). AreLeast g (parts m) old.limit u old.cap ls) (sym (later_earlier last m old new later less)) (elim (cases_lt n m) [
              | inl past ↦
                  subst (λ (P : List Bool). AreLeast g P old.limit u old.cap (labels_after m old)) (sym (grows.still m (omega arith) less))
                  (subst (λ (ls : List ℕ). AreLeast g (parts n) old.limit u old.cap ls) (sym (whole_labels m old (λ i d lt. (let s = r.latest i d lt in omega arith)))) whole)
              | inr low ↦ r.each m low
            ])
            | inr more ↦
                let e : last ≡ m = omega arith in
                subst (λ (j : ℕ). AreLeast g (parts j) old.limit u old.cap (labels_after j new)) e
                (subst (λ (P : List Bool). AreLeast g P old.limit u old.cap (labels_after last new)) (sym grows.is)
                (subst (λ (ls : List ℕ). AreLeast g Q old.limit u old.cap ls) (sym (whole_labels last new stamps)) (grown (parts n) whole grows.grown)))
          ]));
      latest = stamps;
      source = now.source;
      led = λ m i le lt early. elim (cases_lt m last) [
        | inl less ↦
            let was = later_old last m i old new later less lt early in
            led_same g (parts m) new.limit u old.changes new.changes i was.1
            (subst (λ (l : Limit). IsLed g (parts m) l u old.changes i) (sym later.limit) (led_still g parts n m u old r (λ low. grows.still m low less) i was.0
            (subst (λ (c : Change). c.stamp ≤ m) (was.1 i (omega arith)) early)))
        | inr more ↦
            let e : last ≡ m = omega arith in
            subst (λ (j : ℕ). IsLed g (parts j) new.limit u new.changes i) e (subst (λ (P : List Bool). IsLed g P new.limit u new.changes i) (sym grows.is) (now.each i lt))
      ];
    }

pub least_along_undone : (g : Digraph) (parts : ℕ → List Bool) (kept n u k : ℕ) (old new : Costs) → kept ≤ n → take k old.changes ≡ made_by kept old.changes → drop k old.changes ≡ made_after kept old.changes
    → new ≡ record old { labels = labels_after kept old; changes = made_by kept old.changes } → AreLeastAlong g parts n u old → AreLeastAlong g parts kept u new
least_along_undone g parts kept n u k old new le front back is r = subst (λ (t : Costs). AreLeastAlong g parts kept u t) (sym is) (record {
  each = λ m low.
      subst (λ (ls : List ℕ). AreLeast g (parts m) old.limit u old.cap ls)
      (ap (λ (cs : List Change). unwound old.labels cs) (after_parts m kept k old.changes low front back) ∙ unwound-append old.labels (made_after m (made_by kept old.changes)) (made_after kept old.changes))
      (r.each m (omega arith));
  latest = by_latest kept old.changes;
  source = record {
    alone = λ v lt low. r.source.alone v lt
        (subst (λ (ls : List ℕ). label_of ls v < old.cap)
        (sym (unwound-append old.labels (made_by kept old.changes) (made_after kept old.changes)) ∙ ap (λ (cs : List Change). unwound old.labels cs)
        (ap (λ (ds : List Change). ds ++ made_after kept old.changes) (sym front) ∙ (ap (λ (ds : List Change). take k old.changes ++ ds) (sym back) ∙ take-append-drop k old.changes))) low);
  };
  led = λ m i low lt early.
      subst (λ (cs : List Change). (i < length cs) → ((change_at cs i).stamp ≤ m) → IsLed g (parts m) old.limit u cs i) front
      (λ ltk here.
      let size = length-take k old.changes in
      let same : (j : ℕ) → j ≤ i → change_at (take k old.changes) j ≡ change_at old.changes j = λ j le. get_or-take k old.changes j no_change (omega arith) in
      led_same g (parts m) old.limit u old.changes (take k old.changes) i same
      (r.led m i (omega arith) (omega arith) (subst (λ (c : Change). c.stamp ≤ m) (same i (omega arith)) here))) lt early;
})

-- ---- laws

none_present : (P : List Bool) → ((k : ℕ) → present P k ≡ false) → (ks : List ℕ) → IsTrue (list_all (present P) ks) → ks ≡ []
none_present P none [] h = refl
none_present P none (k ∷ ks) h = absurd (both_ways (present P k) (none k) (and_parts (present P k) (list_all (present P) ks) h).0)

pub least_first : (g : Digraph) (parts : ℕ → List Bool) (limit : Limit) (u most : ℕ) → u < g.nodes → ((k : ℕ) → present (parts 0) k ≡ false)
    → AreLeastAlong g parts 0 u (record { limit = limit; cap = most; labels = set (replicate g.nodes most) u 0; changes = [] })
least_first g parts limit u most inside none =
    let labels : List ℕ = set (replicate g.nodes most) u 0 in
    record {
      each = λ m le. let e : 0 ≡ m = omega arith in subst (λ (j : ℕ). AreLeast g (parts j) limit u most labels) e (record {
        len = length-set (replicate g.nodes most) u 0 ∙ length-replicate g.nodes most;
        most = λ v. first_most g.nodes u v most inside;
        least = λ v ks h.
            let x = walks g (parts 0) u v ks h in
            let empty : ks ≡ [] = none_present (parts 0) none ks x.here in
            let at : u ≡ v = eqb-true u v (subst (λ (js : List ℕ). IsTrue (leads g u js v)) empty x.way) in
            subst (λ (w : ℕ). label_of labels w ≤ cost_along limit g ks) at (omega (arith, first_source g.nodes u most inside));
        attained = first_attained g (parts 0) limit u most inside;
      });
      latest = All-nil (λ (c : Change). c.stamp ≤ 0);
      source = record {
        alone = λ v lt below. elim (cases_eq v u) [
          | inl at ↦ at
          | inr other ↦ absurd (omega (arith, first_other g.nodes u v most lt other, below))
        ];
      };
      led = λ m i le lt early. absurd (omega arith);
    }

pub least_same : (g : Digraph) (parts others : ℕ → List Bool) (n u : ℕ) (t : Costs) → ((m : ℕ) → m ≤ n → others m ≡ parts m) → AreLeastAlong g parts n u t → AreLeastAlong g others n u t
least_same g parts others n u t same r = record {
  each = λ m le. subst (λ (P : List Bool). AreLeast g P t.limit u t.cap (labels_after m t)) (sym (same m le)) (r.each m le);
  latest = r.latest;
  source = r.source;
  led = λ m i le lt early. subst (λ (P : List Bool). IsLed g P t.limit u t.changes i) (sym (same m le)) (r.led m i le lt early);
}

pub least_still : (g : Digraph) (parts : ℕ → List Bool) (n last u : ℕ) (t : Costs) → n ≤ last → ((m : ℕ) → n ≤ m → m ≤ last → parts m ≡ parts n) → AreLeastAlong g parts n u t → AreLeastAlong g parts last u t
least_still g parts n last u t le still r = record {
  each = λ m low. elim (cases_lt n m) [
    | inl past ↦
        subst (λ (P : List Bool). AreLeast g P t.limit u t.cap (labels_after m t)) (sym (still m (omega arith) low))
        (subst (λ (ls : List ℕ). AreLeast g (parts n) t.limit u t.cap ls) (whole_labels n t r.latest ∙ sym (whole_labels m t (λ i d lt. (let s = r.latest i d lt in omega arith)))) (r.each n (omega arith)))
    | inr here ↦ r.each m here
  ];
  latest = λ i d lt. (let s = r.latest i d lt in omega arith);
  source = r.source;
  led = λ m i low lt early. led_still g parts n m u t r (λ le. still m le low) i lt early;
}
