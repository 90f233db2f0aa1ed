-- How a search begins, goes on and ends.
use Rattle.std.proofs.Common.{◌≡◌, ◌≢◌, ℕ, zero, suc, ◌<◌, ◌≤◌, Bool, false, List, [], ◌∷◌, length, set, replicate, refl, sym, ap, subst, ◌∙◌, inl, inr, arith}
use Rattle.std.specs.Prelude.{IsTrue, None}
use Rattle.std.proofs.lemmas.Bool.{cases_eq, cases_lt, both_ways}
use Rattle.std.proofs.lemmas.List.{length-set, get_or-set_same, get_or-set_other, get_or-replicate, length-replicate, get_or_past}
use Rattle.mono_graph.specs.Digraph.{Digraph, edge_at, HasEnds, no_edge}
use Rattle.mono_graph.specs.declared.limit.Limit.{Limit}
use Rattle.mono_paths.specs.declared.visit.Visit.{Visit}
use Rattle.mono_paths.specs.declared.waiting.Waiting.{Waiting}
use Rattle.mono_paths.specs.declared.search.LabelSearch.{LabelSearch}
use Rattle.mono_paths.specs.Trails.{visit_at, first_visit, IsTrail}
use Rattle.mono_paths.specs.NodeLabels.{NodeLabels}
use Rattle.mono_paths.specs.Spread.{label_of, IsTight, AreTight, IsSpread, AreLabels, waits_after}
use Rattle.mono_paths.specs.Queues.{is_waiting, IsWithin, IsTaken, Takes, Adds}
use Rattle.mono_paths.specs.Searches.{IsLabelSearch}
use Rattle.mono_paths.proofs.Queued.{waits_once_added}

-- visits that waited wait on where the new test passes whatever the old one does
waits_on : (g : Digraph) (P : List Bool) (limit : Limit) (labels : List ℕ) (vs : List Visit) (p q : ℕ → Bool) → ((i : ℕ) → i < length vs → IsTrue (p i) → IsTrue (q i))
    → IsSpread g P limit labels vs p → IsSpread g P limit labels vs q
waits_on g P limit labels vs p q h s = record {
  each = λ k lt here. elim (s.each k lt here) [
    | inl t ↦ inl t
    | inr w ↦ inr (w.0, w.1, h w.0 w.1 w.2, w.3, w.4)
  ];
}

-- where no visit waits every edge is tight
pub none_waits : (g : Digraph) (P : List Bool) (limit : Limit) (s : LabelSearch) → ((i : ℕ) → i < length s.visits.items → is_waiting s.waiting i ≡ false) → IsLabelSearch g P limit s → AreTight g P limit s.labels.each
none_waits g P limit s none search = record {
  each = λ k lt here. elim (search.spread.each k lt here) [
    | inl t ↦ t
    | inr w ↦ absurd (both_ways (is_waiting s.waiting w.0) (none w.0 w.1) w.2)
  ];
}

pub search_over : (g : Digraph) (P : List Bool) (limit : Limit) (old new : LabelSearch) → new.labels ≡ old.labels → new.visits.items ≡ old.visits.items
    → IsTaken old.waiting new.waiting (length old.visits.items) None → IsLabelSearch g P limit old → IsLabelSearch g P limit new
search_over g P limit old new labels visits none search =
    let tight = none_waits g P limit old none.1 search in
    record {
      trail = subst (λ (vs : List Visit). IsTrail g P limit vs) (sym visits) search.trail;
      labelled =
          subst (λ (vs : List Visit). AreLabels g new.labels.cap new.labels.each vs) (sym visits)
          (subst (λ (l : NodeLabels). AreLabels g l.cap l.each old.visits.items) (sym labels) search.labelled);
      spread = record { each = λ k lt here. inl (subst (λ (l : NodeLabels). IsTight g limit l.each k) (sym labels) (tight.each k lt here)) };
      within = subst (λ (vs : List Visit). IsWithin new.waiting (length vs)) (sym visits) none.0;
    }

-- ---- the start

abbrev first_labels : ℕ → ℕ → ℕ → List ℕ
first_labels n u cap = set (replicate n cap) u 0

label_there : (n u cap : ℕ) → u < n → label_of (first_labels n u cap) u ≡ 0
label_there n u cap lt = get_or-set_same (replicate n cap) u 0 0 (omega (arith, length-replicate n cap))

label_elsewhere : (n u cap w : ℕ) → (w ≢ u) → w < n → label_of (first_labels n u cap) w ≡ cap
label_elsewhere n u cap w other lt = get_or-set_other (replicate n cap) u w 0 0 other ∙ get_or-replicate n w cap 0 lt

first_most : (n u cap w : ℕ) → u < n → label_of (first_labels n u cap) w ≤ cap
first_most n u cap w lt = elim (cases_eq w u) [
  | inl e ↦ subst (λ (x : ℕ). label_of (first_labels n u cap) x ≤ cap) (sym e) (omega (arith, label_there n u cap lt))
  | inr other ↦ elim (cases_lt w n) [
    | inl low ↦ omega (arith, label_elsewhere n u cap w other low)
    | inr past ↦ omega (arith, get_or_past (first_labels n u cap) w 0 (omega (arith, length-set (replicate n cap) u 0, length-replicate n cap)))
  ]
]

first_trail : (g : Digraph) (P : List Bool) (limit : Limit) (u : ℕ) → u < g.nodes → IsTrail g P limit (first_visit u ∷ [])
first_trail g P limit u u-in = record {
  some = omega arith;
  start = refl;
  nodes = λ i lt. only i lt;
  steps = λ i pos lt. absurd (omega arith);
}
  where
    only : (i : ℕ) → i < 1 → (visit_at (first_visit u ∷ []) i).node < g.nodes
    only zero lt = u-in
    only (suc i) lt = absurd (omega arith)

first_are_labels : (g : Digraph) (u cap : ℕ) → u < g.nodes → AreLabels g cap (first_labels g.nodes u cap) (first_visit u ∷ [])
first_are_labels g u cap u-in = record {
  len = length-set (replicate g.nodes cap) u 0 ∙ length-replicate g.nodes cap;
  start = label_there g.nodes u cap u-in;
  most = λ w. first_most g.nodes u cap w u-in;
  made = λ w w-in low. elim (cases_eq w u) [
    | inl e ↦ (0, omega arith, sym e, sym (ap (λ (x : ℕ). label_of (first_labels g.nodes u cap) x) e ∙ label_there g.nodes u cap u-in))
    | inr other ↦ absurd (omega (arith, label_elsewhere g.nodes u cap w other w-in))
  ];
}

first_spread : (g : Digraph) (P : List Bool) (limit : Limit) (u cap : ℕ) (p : ℕ → Bool) → HasEnds g → u < g.nodes → IsTrue (p 0) → IsSpread g P limit (first_labels g.nodes u cap) (first_visit u ∷ []) p
first_spread g P limit u cap p ends u-in waits = record {
  each = λ k lt here. elim (cases_eq (edge_at g k).from u) [
    | inl e ↦ inr (0, omega arith, waits, sym e, sym (ap (λ (w : ℕ). label_of (first_labels g.nodes u cap) w) e ∙ label_there g.nodes u cap u-in))
    | inr other ↦ inl (omega (arith, first_most g.nodes u cap (edge_at g k).to u-in, label_elsewhere g.nodes u cap (edge_at g k).from other (ends k no_edge lt).0))
  ];
}

pub search_begun : (g : Digraph) (P : List Bool) (limit : Limit) (u cap : ℕ) (s : LabelSearch) (w : Waiting) → HasEnds g → u < g.nodes
    → s.labels.cap ≡ cap → s.labels.each ≡ set (replicate g.nodes cap) u 0 → s.visits.items ≡ first_visit u ∷ [] → Adds w s.waiting 0 (length s.visits.items) → IsLabelSearch g P limit s
search_begun g P limit u cap s w ends u-in at_cap labels visits added = record {
  trail = subst (λ (vs : List Visit). IsTrail g P limit vs) (sym visits) (first_trail g P limit u u-in);
  labelled =
      subst (λ (c : ℕ). AreLabels g c s.labels.each s.visits.items) (sym at_cap)
      (subst (λ (ls : List ℕ). AreLabels g cap ls s.visits.items) (sym labels)
      (subst (λ (vs : List Visit). AreLabels g cap (first_labels g.nodes u cap) vs) (sym visits) (first_are_labels g u cap u-in)));
  spread =
      subst (λ (ls : List ℕ). IsSpread g P limit ls s.visits.items (is_waiting s.waiting)) (sym labels)
      (subst (λ (vs : List Visit). IsSpread g P limit (first_labels g.nodes u cap) vs (is_waiting s.waiting)) (sym visits)
      (first_spread g P limit u cap (is_waiting s.waiting) ends u-in (added.new_wait 0 (omega arith) (let one : length s.visits.items ≡ 1 = ap length visits in omega arith))));
  within = added.within;
}

-- ---- one visit more

pub search_more : (g : Digraph) (P : List Bool) (limit : Limit) (old new : LabelSearch) (mid : Waiting) (at : ℕ) → Takes old.waiting mid (length old.visits.items) at
    → new.labels.cap ≡ old.labels.cap → IsTrail g P limit new.visits.items → AreLabels g old.labels.cap new.labels.each new.visits.items
    → ((waits : ℕ → Bool) → IsSpread g P limit old.labels.each old.visits.items waits → IsSpread g P limit new.labels.each new.visits.items (waits_after waits at (length old.visits.items)))
    → Adds mid new.waiting (length old.visits.items) (length new.visits.items) → IsLabelSearch g P limit old → IsLabelSearch g P limit new
search_more g P limit old new mid at taken cap trail labelled spread added search = record {
  trail = trail;
  labelled = subst (λ (c : ℕ). AreLabels g c new.labels.each new.visits.items) (sym cap) labelled;
  spread =
      waits_on g P limit new.labels.each new.visits.items (waits_after (is_waiting old.waiting) at (length old.visits.items)) (is_waiting new.waiting)
      (λ i lt h. waits_once_added old.waiting mid new.waiting at (length old.visits.items) (length new.visits.items) i taken added lt h)
      (spread (is_waiting old.waiting) search.spread);
  within = added.within;
}

-- ---- the visit of a node

-- a visit up to this one is of the node, at this cost
abbrev pub IsVisitedBy : List Visit → ℕ → ℕ → ℕ → Type 0
IsVisitedBy vs u n at = (i : ℕ) × (i ≤ at) × ((visit_at vs i).node ≡ u) × ((visit_at vs i).cost ≡ n)
