-- A flow of the value that is sought passes, and so does a set of the marked nodes where no more can be carried.
use Rattle.std.proofs.Common.{◌≡◌, ◌≢◌, ℕ, ◌+◌, ◌<◌, ◌≤◌, Bool, true, false, not, ◌&&◌, ◌||◌, ◌==◌, List, length, refl, sym, ap, ◌∙◌, inl, inr, arith, ℤ, pos, ◌-ℤ◌, int_lt, int_le}
use Rattle.std.specs.Prelude.{IsTrue, nat_le, if◌then◌else◌}
use Rattle.std.proofs.lemmas.Bool.{and_from, and_parts, or_left, or_right, cases_eq, cases_lt, le-leb, eq-eqb, not-true, not_from_false, both_ways}
use Rattle.std.proofs.lemmas.Int.{ints}
use Rattle.mono_graph.specs.Digraph.{Digraph, present, present_by, places, edge_at, has, leads_out, is_distinct, weight_of, HasEnds}
use Rattle.mono_graph.specs.Flows.{is_flow, is_within, is_conserved, inflow, outflow, value_of, is_flow_of, is_flow_cut, amount_at}
use Rattle.mono_graph.proofs.Places.{all_of}
use Rattle.mono_graph.proofs.CutsBoundFlows.{total_is, flow_value_bounded}
use Rattle.mono_flows.proofs.OneEdge.{none, flow_value_reached}
use Rattle.mono_graph.specs.declared.amount.Amount.{Amount}
use Rattle.mono_flows.specs.Answers.{IsFlowOfValue}
use Rattle.mono_flows.specs.Flowing.{IsFlowing}
use Rattle.mono_flows.specs.Listed.{edges_of}
use Rattle.mono_flows.specs.Residual.{capacity}
use Rattle.mono_flows.specs.Visits.{is_marked, IsBlocked}

-- ---- the flow that carries nothing

pub nothing : (g : Digraph) (P : List Bool) (s t : ℕ) (f : ℕ → ℕ) → ((k : ℕ) → f k ≡ 0) → IsFlowing g P s t f 0
nothing g P s t f empty =
    let out : (u : ℕ) → outflow g f u ≡ 0 = λ u. total_is f (λ k. (edge_at g k).from == u) (places g) ∙ none f (λ k. (edge_at g k).from == u) 0 (length g.edges) (λ k low high h. empty k) in
    let into : (u : ℕ) → inflow g f u ≡ 0 = λ u. total_is f (λ k. (edge_at g k).to == u) (places g) ∙ none f (λ k. (edge_at g k).to == u) 0 (length g.edges) (λ k low high h. empty k) in
    record {
      within = λ k lt. omega (arith, empty k);
      balanced = λ u not-s not-t. into u ∙ sym (out u);
      source = omega (arith, into s, out s);
      small = λ k. omega (arith, empty k);
    }

-- ---- a flow passes

conserved_at : (s t u into out : ℕ) → ((u ≢ s) → (u ≢ t) → into ≡ out) → IsTrue (u == s || u == t || into == out)
conserved_at s t u into out same = elim (cases_eq u s) [
  | inl e ↦ or_left (u == s || u == t) (into == out) (or_left (u == s) (u == t) (eq-eqb u s e))
  | inr not-s ↦ elim (cases_eq u t) [
    | inl e ↦ or_left (u == s || u == t) (into == out) (or_right (u == s) (u == t) (eq-eqb u t e))
    | inr not-t ↦ or_right (u == s || u == t) (into == out) (eq-eqb into out (same not-s not-t))
  ]
]

flowing_passes : {g : Digraph} {P : List Bool} {s t : ℕ} {f : ℕ → ℕ} {value : ℕ} → IsFlowing g P s t f value → IsTrue (is_flow g P s t f)
flowing_passes {g = g} {P = P} {s = s} {t = t} {f = f} flow =
    and_from (is_within g P f) (is_conserved g s t f)
    (all_of (λ k. nat_le (f k) (if present P k then (edge_at g k).weight else 0)) 0 (length g.edges) (λ k low high. le-leb (f k) (capacity g P k) (flow.within k (omega arith))))
    (all_of (λ u. u == s || u == t || inflow g f u == outflow g f u) 0 g.nodes (λ u low high. conserved_at s t u (inflow g f u) (outflow g f u) (λ not-s not-t. flow.balanced u not-s not-t)))

-- ---- the cut

below_least : (w v n : ℕ) (least : ℤ) → least ≡ pos n → w ≤ v → v < n → IsTrue (int_lt (pos w) least)
below_least w v n least e le lt = grind (arith, ints)

-- the edges that leave a set are full, so a flow's value is at least what they weigh
record IsFilled (g : Digraph) (P : List Bool) (s t : ℕ) (f : ℕ → ℕ) (set : List ℕ) : Type 0 where
  pub inside : IsTrue (has set s)
  pub outside : has set t ≡ false
  pub reached : inflow g f s + weight_of g (present_by (leads_out set) g P) ≤ outflow g f s

blocked_filled : {g : Digraph} {P : List Bool} {s t : ℕ} {f : ℕ → ℕ} {value : ℕ} (marks : List Bool) (set : List ℕ) → ((u : ℕ) → has set u ≡ is_marked marks u) → HasEnds g → s < g.nodes
    → IsFlowing g P s t f value → IsBlocked g P f s t marks → IsFilled g P s t f set
blocked_filled {g = g} {P = P} {s = s} {t = t} {f = f} marks set same graph s-in flow b =
    let inside : IsTrue (has set s) = same s ∙ b.from in
    let outside : has set t ≡ false = same t ∙ b.to in
    let full : (k : ℕ) → k < length g.edges → IsTrue (present P k) → IsTrue (leads_out set (edge_at g k)) → (edge_at g k).weight ≤ f k =
    λ k low here h.
    let parts = and_parts (has set (edge_at g k).from) (not (has set (edge_at g k).to)) h in
    elim (cases_lt (f k) (edge_at g k).weight) [
      | inr le ↦ le
      | inl more ↦
          let cap : capacity g P k ≡ (edge_at g k).weight = ap (λ (c : Bool). if c then (edge_at g k).weight else 0) here in
          let to-marked : IsTrue (is_marked marks (edge_at g k).to) = b.closed k false low (omega (arith, cap, more)) (sym (same (edge_at g k).from) ∙ parts.0) in
          absurd (both_ways (has set (edge_at g k).to) (not-true (has set (edge_at g k).to) parts.1) (same (edge_at g k).to ∙ to-marked))
    ] in
    let empty : (k : ℕ) → k < length g.edges → IsTrue (has set (edge_at g k).to && not (has set (edge_at g k).from)) → f k ≡ 0 =
    λ k low h.
    let parts = and_parts (has set (edge_at g k).to) (not (has set (edge_at g k).from)) h in
    elim (cases_lt 0 (f k)) [
      | inr le ↦ omega (arith, le)
      | inl more ↦
          let from-marked : IsTrue (is_marked marks (edge_at g k).from) = b.closed k true low more (sym (same (edge_at g k).to) ∙ parts.0) in
          absurd (both_ways (has set (edge_at g k).from) (not-true (has set (edge_at g k).from) parts.1) (same (edge_at g k).from ∙ from-marked))
    ] in
    record { inside = inside; outside = outside; reached = flow_value_reached g P s t f set graph s-in (λ u u-in not-s not-t. flow.balanced u not-s not-t) inside outside full empty }

pub blocked_cut : (g : Digraph) (P : List Bool) (s t : ℕ) (f : ℕ → ℕ) (value n : ℕ) (least : ℤ) (marks : List Bool) (set : List ℕ) → ((u : ℕ) → has set u ≡ is_marked marks u) → HasEnds g → s < g.nodes
    → IsFlowing g P s t f value → least ≡ pos n → value < n → IsBlocked g P f s t marks → IsTrue (is_flow_cut g P s t least set)
blocked_cut g P s t f value n least marks set same graph s-in flow least-is lt b =
    let filled : IsFilled g P s t f set = blocked_filled marks set same graph s-in flow b in
    let reached = filled.reached in
    let source = flow.source in
    and_from (has set s && not (has set t)) (int_lt (pos (weight_of g (present_by (leads_out set) g P))) least)
    (and_from (has set s) (not (has set t)) filled.inside (not_from_false (has set t) filled.outside))
    (below_least (weight_of g (present_by (leads_out set) g P)) value n least least-is (omega (arith, reached, source)) lt)

-- it is exactly that
pub blocked_weight : (g : Digraph) (P : List Bool) (s t : ℕ) (f : ℕ → ℕ) (value : ℕ) (marks : List Bool) (set : List ℕ) → ((u : ℕ) → has set u ≡ is_marked marks u) → HasEnds g → s < g.nodes
    → IsFlowing g P s t f value → IsBlocked g P f s t marks → value ≡ weight_of g (present_by (leads_out set) g P)
blocked_weight g P s t f value marks set same graph s-in flow b =
    let filled : IsFilled g P s t f set = blocked_filled marks set same graph s-in flow b in
    let reached = filled.reached in
    let source = flow.source in
    let bounded = flow_value_bounded g P s t f set graph s-in (flowing_passes flow) filled.inside filled.outside in
    omega (arith, reached, source, bounded)

-- ---- the flow

at_least : (i o v n : ℕ) (least : ℤ) → least ≡ pos n → n ≤ v → o ≡ i + v → IsTrue (int_le least (pos o -ℤ pos i))
at_least i o v n least e le sum = grind (arith, ints)

-- a list in which no edge stands twice, of at least this value
pub flow_passes : {g : Digraph} {P : List Bool} {s t : ℕ} {value : ℕ} (xs : List Amount) (n : ℕ) → IsFlowing g P s t (amount_at xs) value → IsTrue (is_distinct (edges_of xs)) → n ≤ value
    → IsTrue (is_flow_of g P s t (pos n) xs)
flow_passes {g = g} {P = P} {s = s} {t = t} {value = value} xs n flow distinct enough =
    let f : ℕ → ℕ = amount_at xs in
    and_from (is_distinct (edges_of xs) && is_flow g P s t f) (int_le (pos n) (value_of g s f))
    (and_from (is_distinct (edges_of xs)) (is_flow g P s t f) distinct (flowing_passes flow))
    (at_least (inflow g f s) (outflow g f s) value n (pos n) refl enough flow.source)

value_exact : (i o v : ℕ) → o ≡ i + v → (pos o -ℤ pos i) ≡ pos v
value_exact i o v sum = grind (arith, ints)

pub flow_value : {g : Digraph} {P : List Bool} {s t : ℕ} {f : ℕ → ℕ} {value : ℕ} → IsFlowing g P s t f value → value_of g s f ≡ pos value
flow_value {g = g} {s = s} {f = f} {value = value} flow = value_exact (inflow g f s) (outflow g f s) value flow.source

pub flow_is : {g : Digraph} {P : List Bool} {s t : ℕ} {value : ℕ} (xs : List Amount) → IsFlowing g P s t (amount_at xs) value → IsTrue (is_distinct (edges_of xs)) → IsFlowOfValue g P s t value xs
flow_is {value = value} xs flow distinct = record { passes = flow_passes xs value flow distinct (omega arith); value = flow_value flow }
