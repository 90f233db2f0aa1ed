-- A list of amounts is a flow exactly where it is one at the edges and nodes that it names: at all others nothing is
-- carried, so each of them is within its weight and balanced.
use Rattle.std.proofs.Common.{◌≡◌, ◌≢◌, ℕ, ◌<◌, ◌≤◌, Bool, true, false, not, ◌&&◌, ◌||◌, ◌==◌, List, [], ◌∷◌, length, get_or, map, sum_by, refl, sym, ap, subst, ◌∙◌, inl, inr, arith, ℤ, pos, ◌-ℤ◌, int_le}
use Rattle.std.specs.Prelude.{IsTrue, All, nat_le, if◌then◌else◌}
use Rattle.std.specs.List.{list_all}
use Rattle.std.proofs.lemmas.Bool.{and_from, and_parts, or_right, cases_eq, cases_Bool, le-leb, leb-true, eq-eqb, ne_eqb, eqb-true, not-true}
use Rattle.std.proofs.lemmas.List.Elements.{All-head, All-tail}
use Rattle.std.proofs.lemmas.List.Sums.{sum_by-cons}
use Rattle.mono_graph.specs.declared.edge.Edge.{Edge}
use Rattle.mono_graph.specs.Digraph.{Digraph, places, edge_at, has, is_distinct, HasEnds}
use Rattle.mono_graph.specs.Flows.{is_flow, is_within, is_conserved, inflow, outflow, value_of, is_flow_of, amount_at}
use Rattle.mono_graph.proofs.Places.{all_below, all_of}
use Rattle.mono_graph.proofs.Membership.{has_cons, same_truth}
use Rattle.mono_graph.proofs.CutsBoundFlows.{total, total_is, ends_at}
use Rattle.mono_flows.proofs.OneEdge.{none, moved_total}
use Rattle.mono_graph.specs.declared.amount.Amount.{Amount}
use Rattle.mono_flows.specs.Listed.{edges_of, can_carry, at_end, listed_out, listed_in, is_balanced_at, has_balanced_ends}
use Rattle.mono_flows.specs.Residual.{capacity}
use Rattle.mono_flows.proofs.ListedSums.{not_ended}

-- ---- the amount at a place

pub absent : (xs : List Amount) (k : ℕ) → has (edges_of xs) k ≡ false → amount_at xs k ≡ 0
absent [] k h = refl
absent (a ∷ xs) k h = by_test (a.edge == k) h (λ e. absent xs k e)
  where
    by_test : (b : Bool) → (b || has (edges_of xs) k) ≡ false → (has (edges_of xs) k ≡ false → amount_at xs k ≡ 0) → (if b then a.amount else amount_at xs k) ≡ 0
    by_test true e rest = absurd cc
    by_test false e rest = rest e

at_head : (a : Amount) (xs : List Amount) → amount_at (a ∷ xs) a.edge ≡ a.amount
at_head a xs = ap (λ (b : Bool). if b then a.amount else amount_at xs a.edge) (eq-eqb a.edge a.edge refl)

past_head : (a : Amount) (xs : List Amount) (k : ℕ) → (k ≢ a.edge) → amount_at (a ∷ xs) k ≡ amount_at xs k
past_head a xs k ne = ap (λ (b : Bool). if b then a.amount else amount_at xs k) (ne_eqb a.edge k (λ e. ne (sym e)))

-- ---- sums at a node

listed_total : (end : Edge → ℕ) (g : Digraph) (u : ℕ) (xs : List Amount) → All (λ a. a.edge < length g.edges) xs → IsTrue (is_distinct (edges_of xs))
    → total (amount_at xs) (λ k. end (edge_at g k) == u) (places g) ≡ sum_by (at_end end g u) xs
listed_total end g u [] known d = none (amount_at []) (λ k. end (edge_at g k) == u) 0 (length g.edges) (λ k low high h. refl)
listed_total end g u (a ∷ xs) known d =
    let parts = and_parts (not (has (edges_of xs) a.edge)) (is_distinct (edges_of xs)) d in
    let rest = listed_total end g u xs (All-tail (λ b. b.edge < length g.edges) a xs known) parts.1 in
    let here : a.edge < length g.edges = All-head (λ b. b.edge < length g.edges) a xs known in
    let moved = moved_total (amount_at xs) (amount_at (a ∷ xs)) (λ k. end (edge_at g k) == u) a.edge 0 (length g.edges) (omega arith) (omega arith) (λ j ne. past_head a xs j ne) in
    let was : (if end (edge_at g a.edge) == u then amount_at xs a.edge else 0) ≡ 0 = zero_flag (end (edge_at g a.edge) == u) (amount_at xs a.edge) (absent xs a.edge (not-true (has (edges_of xs) a.edge) parts.0)) in
    let is : (if end (edge_at g a.edge) == u then amount_at (a ∷ xs) a.edge else 0) ≡ at_end end g u a = ap (λ (n : ℕ). if end (edge_at g a.edge) == u then n else 0) (at_head a xs) in
    omega (arith, moved, was, is, rest, sum_by-cons (at_end end g u) a xs)
  where
    zero_flag : (b : Bool) (n : ℕ) → n ≡ 0 → (if b then n else 0) ≡ 0
    zero_flag true n e = e
    zero_flag false n e = refl

pub out_is : (g : Digraph) (xs : List Amount) (u : ℕ) → All (λ a. a.edge < length g.edges) xs → IsTrue (is_distinct (edges_of xs)) → outflow g (amount_at xs) u ≡ listed_out g xs u
out_is g xs u known d = total_is (amount_at xs) (λ k. (edge_at g k).from == u) (places g) ∙ listed_total (λ e. e.from) g u xs known d

pub in_is : (g : Digraph) (xs : List Amount) (u : ℕ) → All (λ a. a.edge < length g.edges) xs → IsTrue (is_distinct (edges_of xs)) → inflow g (amount_at xs) u ≡ listed_in g xs u
in_is g xs u known d = total_is (amount_at xs) (λ k. (edge_at g k).to == u) (places g) ∙ listed_total (λ e. e.to) g u xs known d

-- ---- within

pub carried_at : (g : Digraph) (P : List Bool) (xs : List Amount) → IsTrue (list_all (can_carry g P) xs) → (k : ℕ) → amount_at xs k ≤ capacity g P k
carried_at g P [] h k = omega arith
carried_at g P (a ∷ xs) h k =
    let parts = and_parts (can_carry g P a) (list_all (can_carry g P) xs) h in
    elim (cases_eq a.edge k) [
      | inl e ↦ subst (λ (j : ℕ). amount_at (a ∷ xs) j ≤ capacity g P j) e (rw (at_head a xs) (leb-true a.amount (capacity g P a.edge) parts.0))
      | inr ne ↦ rw (past_head a xs k (λ q. ne (sym q))) (carried_at g P xs parts.1 k)
    ]

at_carried : (g : Digraph) (P : List Bool) (xs : List Amount) → All (λ a. a.edge < length g.edges) xs → IsTrue (is_distinct (edges_of xs)) → ((k : ℕ) → k < length g.edges → amount_at xs k ≤ capacity g P k) → IsTrue (list_all (can_carry g P) xs)
at_carried g P [] known d h = refl
at_carried g P (a ∷ xs) known d h =
    let parts = and_parts (not (has (edges_of xs) a.edge)) (is_distinct (edges_of xs)) d in
    let here : a.edge < length g.edges = All-head (λ b. b.edge < length g.edges) a xs known in
    let gone : amount_at xs a.edge ≡ 0 = absent xs a.edge (not-true (has (edges_of xs) a.edge) parts.0) in
    and_from (can_carry g P a) (list_all (can_carry g P) xs) (le-leb a.amount (capacity g P a.edge) (subst (λ (n : ℕ). n ≤ capacity g P a.edge) (at_head a xs) (h a.edge here)))
    (at_carried g P xs (All-tail (λ b. b.edge < length g.edges) a xs known) parts.1 (λ k lt. elim (cases_eq a.edge k) [
      | inl e ↦ subst (λ (j : ℕ). amount_at xs j ≤ capacity g P j) e (omega (arith, gone))
      | inr ne ↦ subst (λ (n : ℕ). n ≤ capacity g P k) (past_head a xs k (λ q. ne (sym q))) (h k lt)
    ]))

within_answer : (g : Digraph) (P : List Bool) (xs : List Amount) → All (λ a. a.edge < length g.edges) xs → IsTrue (is_distinct (edges_of xs)) → list_all (can_carry g P) xs ≡ is_within g P (amount_at xs)
within_answer g P xs known d = same_truth (list_all (can_carry g P) xs) (is_within g P (amount_at xs))
    (λ h. all_of (λ k. nat_le (amount_at xs k) (capacity g P k)) 0 (length g.edges) (λ k low high. le-leb (amount_at xs k) (capacity g P k) (carried_at g P xs h k)))
    (λ h. at_carried g P xs known d (λ k lt. leb-true (amount_at xs k) (capacity g P k) (all_below (λ j. nat_le (amount_at xs j) (capacity g P j)) 0 (length g.edges) h k (omega arith) (omega arith))))

-- ---- balanced

-- what stands at the nodes is what the list carries there
pub record Tallied (g : Digraph) (xs : List Amount) (out into : List ℕ) : Type 0 where
  pub leaving : (u : ℕ) → get_or out u 0 ≡ listed_out g xs u
  pub entering : (u : ℕ) → get_or into u 0 ≡ listed_in g xs u

-- at one end of the listed edges
balanced_end : (end : Edge → ℕ) (g : Digraph) (out into : List ℕ) (s t u : ℕ) (xs : List Amount)
    → ((a : Amount) → IsTrue (has_balanced_ends g out into s t a) → IsTrue (is_balanced_at out into s t (end (edge_at g a.edge))))
    → IsTrue (list_all (has_balanced_ends g out into s t) xs) → IsTrue (has (map (λ a. end (edge_at g a.edge)) xs) u) → IsTrue (is_balanced_at out into s t u)
balanced_end end g out into s t u [] here h there = absurd cc
balanced_end end g out into s t u (a ∷ xs) here h there =
    let parts = and_parts (has_balanced_ends g out into s t a) (list_all (has_balanced_ends g out into s t) xs) h in
    elim (has_cons (end (edge_at g a.edge)) u (map (λ b. end (edge_at g b.edge)) xs) there) [
      | inl e ↦ subst (λ (v : ℕ). IsTrue (is_balanced_at out into s t v)) e (here a parts.0)
      | inr later ↦ balanced_end end g out into s t u xs here parts.1 later
    ]

both_ends : (g : Digraph) (out into : List ℕ) (s t : ℕ) (a : Amount) → IsTrue (has_balanced_ends g out into s t a)
    → IsTrue (is_balanced_at out into s t (edge_at g a.edge).from) × IsTrue (is_balanced_at out into s t (edge_at g a.edge).to)
both_ends g out into s t a h = and_parts (is_balanced_at out into s t (edge_at g a.edge).from) (is_balanced_at out into s t (edge_at g a.edge).to) h

-- a node that the list doesn't name is balanced
unnamed : (g : Digraph) (out into : List ℕ) (s t u : ℕ) (xs : List Amount) → Tallied g xs out into → has (map (λ a. (edge_at g a.edge).from) xs) u ≡ false → has (map (λ a. (edge_at g a.edge).to) xs) u ≡ false → IsTrue (is_balanced_at out into s t u)
unnamed g out into s t u xs w no-from no-to =
    or_right (u == s || u == t) (get_or into u 0 == get_or out u 0) (eq-eqb (get_or into u 0) (get_or out u 0)
    (w.entering u ∙ (not_ended (λ e. e.to) g xs u no-to ∙ sym (w.leaving u ∙ not_ended (λ e. e.from) g xs u no-from))))

pub balanced_all : (g : Digraph) (out into : List ℕ) (s t : ℕ) (xs : List Amount) → Tallied g xs out into → IsTrue (list_all (has_balanced_ends g out into s t) xs) → (u : ℕ) → IsTrue (is_balanced_at out into s t u)
balanced_all g out into s t xs w h u =
    elim (cases_Bool (has (map (λ a. (edge_at g a.edge).from) xs) u)) [
      | inl there ↦ balanced_end (λ e. e.from) g out into s t u xs (λ a b. (both_ends g out into s t a b).0) h there
      | inr no-from ↦ elim (cases_Bool (has (map (λ a. (edge_at g a.edge).to) xs) u)) [
        | inl there ↦ balanced_end (λ e. e.to) g out into s t u xs (λ a b. (both_ends g out into s t a b).1) h there
        | inr no-to ↦ unnamed g out into s t u xs w no-from no-to
      ]
    ]

all_balanced : (g : Digraph) (out into : List ℕ) (s t : ℕ) (xs : List Amount) → HasEnds g → All (λ a. a.edge < length g.edges) xs → ((u : ℕ) → u < g.nodes → IsTrue (is_balanced_at out into s t u)) → IsTrue (list_all (has_balanced_ends g out into s t) xs)
all_balanced g out into s t [] ends known h = refl
all_balanced g out into s t (a ∷ xs) ends known h =
    let at = ends_at g ends a.edge (All-head (λ b. b.edge < length g.edges) a xs known) in
    and_from (has_balanced_ends g out into s t a) (list_all (has_balanced_ends g out into s t) xs)
    (and_from (is_balanced_at out into s t (edge_at g a.edge).from) (is_balanced_at out into s t (edge_at g a.edge).to) (h (edge_at g a.edge).from at.0) (h (edge_at g a.edge).to at.1))
    (all_balanced g out into s t xs ends (All-tail (λ b. b.edge < length g.edges) a xs known) h)

balanced_answer : (g : Digraph) (out into : List ℕ) (s t : ℕ) (xs : List Amount) → HasEnds g → All (λ a. a.edge < length g.edges) xs → IsTrue (is_distinct (edges_of xs)) → Tallied g xs out into
    → list_all (has_balanced_ends g out into s t) xs ≡ is_conserved g s t (amount_at xs)
balanced_answer g out into s t xs ends known d w = same_truth (list_all (has_balanced_ends g out into s t) xs) (is_conserved g s t (amount_at xs))
    (λ h. all_of (λ u. u == s || u == t || inflow g (amount_at xs) u == outflow g (amount_at xs) u) 0 g.nodes (λ u low high. subst (λ (b : Bool). IsTrue b) (same u) (balanced_all g out into s t xs w h u)))
    (λ h. all_balanced g out into s t xs ends known (λ u lt. subst (λ (b : Bool). IsTrue b) (sym (same u))
    (all_below (λ v. v == s || v == t || inflow g (amount_at xs) v == outflow g (amount_at xs) v) 0 g.nodes h u (omega arith) (omega arith))))
  where
    same : (u : ℕ) → is_balanced_at out into s t u ≡ (u == s || u == t || inflow g (amount_at xs) u == outflow g (amount_at xs) u)
    same u =
        ap (λ (n : ℕ). u == s || u == t || n == get_or out u 0) (w.entering u ∙ sym (in_is g xs u known d))
        ∙ ap (λ (n : ℕ). u == s || u == t || inflow g (amount_at xs) u == n) (w.leaving u ∙ sym (out_is g xs u known d))

-- ---- what the list doesn't name

listed_end : (end : Edge → ℕ) (g : Digraph) (u k : ℕ) (xs : List Amount) → All (λ a. end (edge_at g a.edge) ≢ u) xs → end (edge_at g k) ≡ u → amount_at xs k ≡ 0
listed_end end g u k [] none-is e = refl
listed_end end g u k (a ∷ xs) none-is e =
    let apart : k ≢ a.edge = λ same. All-head (λ b. end (edge_at g b.edge) ≢ u) a xs none-is (subst (λ (j : ℕ). end (edge_at g j) ≡ u) same e) in
    past_head a xs k apart ∙ listed_end end g u k xs (All-tail (λ b. end (edge_at g b.edge) ≢ u) a xs none-is) e

end_total : (end : Edge → ℕ) (g : Digraph) (u : ℕ) (xs : List Amount) → All (λ a. end (edge_at g a.edge) ≢ u) xs → total (amount_at xs) (λ k. end (edge_at g k) == u) (places g) ≡ 0
end_total end g u xs none-is = none (amount_at xs) (λ k. end (edge_at g k) == u) 0 (length g.edges) (λ k low high here. listed_end end g u k xs none-is (eqb-true (end (edge_at g k)) u here))

pub unnamed_balanced : (g : Digraph) (xs : List Amount) (u : ℕ) → All (λ a. (edge_at g a.edge).from ≢ u) xs → All (λ a. (edge_at g a.edge).to ≢ u) xs → inflow g (amount_at xs) u ≡ outflow g (amount_at xs) u
unnamed_balanced g xs u no-from no-to =
    total_is (amount_at xs) (λ k. (edge_at g k).to == u) (places g)
    ∙ (end_total (λ e. e.to) g u xs no-to
    ∙ sym (total_is (amount_at xs) (λ k. (edge_at g k).from == u) (places g) ∙ end_total (λ e. e.from) g u xs no-from))

-- ---- the answer

pub not_marked : (g : Digraph) (P : List Bool) (s t : ℕ) (least : ℤ) (xs : List Amount) → All (λ a. a.edge < length g.edges) xs → (is_distinct (edges_of xs) && list_all (can_carry g P) xs) ≡ false
    → false ≡ is_flow_of g P s t least xs
not_marked g P s t least xs known h = by_test (is_distinct (map (λ a. a.edge) xs)) refl
  where
    by_test : (b : Bool) → is_distinct (map (λ a. a.edge) xs) ≡ b → false ≡ ((b && is_flow g P s t (amount_at xs)) && int_le least (value_of g s (amount_at xs)))
    by_test false e = refl
    by_test true e =
        let d : IsTrue (is_distinct (edges_of xs)) = e in
        let off : list_all (can_carry g P) xs ≡ false = rw d at h in
        let not-within : is_within g P (amount_at xs) ≡ false = sym (within_answer g P xs known d) ∙ off in
        rw not-within refl

pub flow_answer : (g : Digraph) (P : List Bool) (s t : ℕ) (least : ℤ) (xs : List Amount) (out into : List ℕ) → HasEnds g → All (λ a. a.edge < length g.edges) xs → IsTrue (is_distinct (edges_of xs) && list_all (can_carry g P) xs)
    → Tallied g xs out into → (list_all (has_balanced_ends g out into s t) xs && int_le least (pos (get_or out s 0) -ℤ pos (get_or into s 0))) ≡ is_flow_of g P s t least xs
flow_answer g P s t least xs out into ends known h w =
    let parts = and_parts (is_distinct (edges_of xs)) (list_all (can_carry g P) xs) h in
    let d' : is_distinct (map (λ a. a.edge) xs) ≡ true = parts.0 in
    let inside : is_within g P (amount_at xs) ≡ true = sym (within_answer g P xs known parts.0) ∙ parts.1 in
    let value : (pos (get_or out s 0) -ℤ pos (get_or into s 0)) ≡ value_of g s (amount_at xs) =
    ap (λ (n : ℕ). pos n -ℤ pos (get_or into s 0)) (w.leaving s ∙ sym (out_is g xs s known parts.0)) ∙ ap (λ (n : ℕ). pos (outflow g (amount_at xs) s) -ℤ pos n) (w.entering s ∙ sym (in_is g xs s known parts.0)) in
    ap (λ (z : ℤ). list_all (has_balanced_ends g out into s t) xs && int_le least z) value
    ∙ (ap (λ (b : Bool). b && int_le least (value_of g s (amount_at xs))) (balanced_answer g out into s t xs ends known parts.0 w)
    ∙ sym (ap (λ (b : Bool). (b && is_flow g P s t (amount_at xs)) && int_le least (value_of g s (amount_at xs))) d'
    ∙ ap (λ (b : Bool). (true && (b && is_conserved g s t (amount_at xs))) && int_le least (value_of g s (amount_at xs))) inside))
