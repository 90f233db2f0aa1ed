-- What was found decides whether there is a flow, and a cut that a flow fills is its value.
use Rattle.std.proofs.Common.{◌≡◌, ◌≢◌, ℕ, ◌+◌, ◌<◌, ◌≤◌, Bool, false, not, ◌&&◌, ◌||◌, ◌==◌, List, length, map, refl, arith, ℤ, pos, ◌-ℤ◌, int_le}
use Rattle.std.specs.Prelude.{IsTrue, ◌↔◌}
use Rattle.std.proofs.lemmas.Bool.{and_from, and_parts, not-true}
use Rattle.std.proofs.lemmas.Int.{ints}
use Rattle.mono_graph.specs.declared.amount.Amount.{Amount}
use Rattle.mono_graph.specs.Digraph.{Digraph, HasEnds, is_distinct, edge_at, has, leads_out, present, present_by, weight_of}
use Rattle.mono_graph.specs.Flows.{is_flow, is_flow_of, is_within, is_conserved, inflow, outflow, amount_at, value_of}
use Rattle.mono_graph.proofs.CutsBoundFlows.{flow_cut_excludes, flow_value_bounded, same_flow}
use Rattle.mono_graph.proofs.Places.{all_below}
use Rattle.mono_flows.proofs.OneEdge.{flow_value_reached}
use Rattle.mono_flows.specs.declared.found.FlowOrCut.{FlowOrCut}
use Rattle.mono_flows.specs.declared.found.FlowOrCut.TheVariants as found
use Rattle.mono_flows.specs.Answers.{Passes, is_flow_found}

pub decides : (g : Digraph) (P : List Bool) (s t : ℕ) (least : ℤ) (f : FlowOrCut) → HasEnds g → s < g.nodes → Passes g P s t least f
    → IsTrue (is_flow_found f) ↔ ((amounts : List Amount) × IsTrue (is_flow_of g P s t least amounts))
decides g P s t least (found.Flow amounts) ends inside passes = (λ yes. (amounts.items, passes), λ there. refl)
decides g P s t least (found.Cut set) ends inside passes = (λ yes. absurd cc, λ there. absurd (none there.0 there.1))
  where
    none : (amounts : List Amount) → IsTrue (is_flow_of g P s t least amounts) → ⊥
    none amounts h =
        let f : ℕ → ℕ = amount_at amounts in
        let a = and_parts (is_distinct (map (λ a. a.edge) amounts) && is_flow g P s t f) (int_le least (value_of g s f)) h in
        let b = and_parts (is_distinct (map (λ a. a.edge) amounts)) (is_flow g P s t f) a.0 in
        flow_cut_excludes g P s t least f set.items ends inside passes (and_from (is_flow g P s t f) (int_le least (value_of g s f)) b.1 a.1)

-- ---- a cut that is full

value_is : (i o w : ℕ) → i + w ≤ o → o ≤ i + w → (pos o -ℤ pos i) ≡ pos w
value_is i o w above below = grind (arith, ints)

-- a flow has the value of a cut that it fills
pub full_value : (g : Digraph) (P : List Bool) (s t : ℕ) (f : ℕ → ℕ) (set : List ℕ) → HasEnds g → s < g.nodes → IsTrue (is_flow g P s t f) → IsTrue (has set s) → IsTrue (not (has set t))
    → ((k : ℕ) → k < length g.edges → IsTrue (present P k && leads_out set (edge_at g k)) → f k ≡ (edge_at g k).weight)
    → ((k : ℕ) → k < length g.edges → IsTrue (has set (edge_at g k).to && not (has set (edge_at g k).from)) → f k ≡ 0)
    → value_of g s f ≡ pos (weight_of g (present_by (leads_out set) g P))
full_value g P s t f set ends s-in flow inside outside full empty =
    let parts = and_parts (is_within g P f) (is_conserved g s t f) flow in
    let apart : has set t ≡ false = not-true (has set t) outside in
    let balanced : (u : ℕ) → u < g.nodes → (u ≢ s) → (u ≢ t) → inflow g f u ≡ outflow g f u =
    λ u lt not-s not-t. same_flow s t u (inflow g f u) (outflow g f u) (all_below (λ v. (v == s || v == t) || inflow g f v == outflow g f v) 0 g.nodes parts.1 u (omega arith) (omega arith)) not-s not-t in
    let leaves : (k : ℕ) → k < length g.edges → IsTrue (present P k) → IsTrue (leads_out set (edge_at g k)) → (edge_at g k).weight ≤ f k =
    λ k lt here out. omega (arith, full k lt (and_from (present P k) (leads_out set (edge_at g k)) here out)) in
    value_is (inflow g f s) (outflow g f s) (weight_of g (present_by (leads_out set) g P)) (flow_value_reached g P s t f set ends s-in balanced inside apart leaves empty) (flow_value_bounded g P s t f set ends s-in flow inside apart)
