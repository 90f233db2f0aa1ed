-- What passes over a part passes over each larger part: walks, flows and trees. What shows that there is none passes over each smaller part.
use Rattle.std.proofs.Common.{ℕ, ◌+◌, ◌≤◌, Bool, true, false, not, ◌&&◌, ◌||◌, List, [], ◌∷◌, refl, arith, ℤ, pos, ◌<ℤ◌, int_lt, int_le, map}
use Rattle.std.specs.Prelude.{IsTrue, nat_le, if◌then◌else◌}
use Rattle.std.specs.Ordering.{int_eq}
use Rattle.std.specs.List.{list_all, list_any}
use Rattle.std.proofs.lemmas.Bool.{and_parts, and_from, leb-true, le-leb}
use Rattle.std.proofs.lemmas.Int.{ints}
use Rattle.mono_graph.specs.declared.amount.Amount.{Amount}
use Rattle.mono_graph.specs.declared.label.Label.{Label}
use Rattle.mono_graph.specs.declared.limit.Limit.{Limit}
use Rattle.mono_graph.specs.Digraph.{Digraph, present, present_by, places, is_place, nodes_of, edge_at, weight_of, leads_out, crosses, has, is_distinct, IsSubpart}
use Rattle.mono_graph.specs.Walks.{is_walk, is_path, is_light, leads, is_cut, is_labelling, is_tense, label_at, bound_of}
use Rattle.mono_graph.specs.Flows.{is_flow, is_within, is_conserved, is_flow_of, is_flow_cut, value_of, amount_at}
use Rattle.mono_graph.specs.Trees.{is_tree, is_spanning_tree, is_split, is_least, is_bridged}
use Rattle.mono_graph.proofs.Parts.{list_all_weaker}
use Rattle.mono_graph.proofs.CutsBoundFlows.{total, total_is}
use Rattle.mono_graph.proofs.CutsBoundWalks.{lt_from_test}

-- ---- to a larger part

pub is_walk-larger : (g : Digraph) (P Q : List Bool) → IsSubpart P Q → (u v : ℕ) (ks : List ℕ) → IsTrue (is_walk g P u v ks) → IsTrue (is_walk g Q u v ks)
is_walk-larger g P Q s u v ks h =
    let a = and_parts (list_all (is_place g) ks && list_all (present P) ks) (leads g u ks v) h in
    let b = and_parts (list_all (is_place g) ks) (list_all (present P) ks) a.0 in
    and_from (list_all (is_place g) ks && list_all (present Q) ks) (leads g u ks v)
    (and_from (list_all (is_place g) ks) (list_all (present Q) ks) b.0 (list_all_weaker (present P) (present Q) s.keeps ks b.1)) a.1

pub is_path-larger : (g : Digraph) (P Q : List Bool) → IsSubpart P Q → (u v : ℕ) (limit : Limit) (ks : List ℕ) → IsTrue (is_path g P u v limit ks) → IsTrue (is_path g Q u v limit ks)
is_path-larger g P Q s u v limit ks h =
    let a = and_parts (is_walk g P u v ks) (is_light limit g ks) h in
    and_from (is_walk g Q u v ks) (is_light limit g ks) (is_walk-larger g P Q s u v ks a.0) a.1

room : (n w : ℕ) (p q : Bool) → (IsTrue p → IsTrue q) → IsTrue (nat_le n (if p then w else 0)) → IsTrue (nat_le n (if q then w else 0))
room n w true true f h = h
room n w false false f h = h
room n w true false f h = absurd (let e = f refl in cc)
room n w false true f h = let le : n ≤ 0 = leb-true n 0 h in le-leb n w (omega arith)

pub is_flow-larger : (g : Digraph) (P Q : List Bool) → IsSubpart P Q → (s t : ℕ) (f : ℕ → ℕ) → IsTrue (is_flow g P s t f) → IsTrue (is_flow g Q s t f)
is_flow-larger g P Q sub s t f h =
    let a = and_parts (is_within g P f) (is_conserved g s t f) h in
    and_from (is_within g Q f) (is_conserved g s t f)
    (list_all_weaker (λ k. nat_le (f k) (if present P k then (edge_at g k).weight else 0)) (λ k. nat_le (f k) (if present Q k then (edge_at g k).weight else 0))
    (λ k e. room (f k) (edge_at g k).weight (present P k) (present Q k) (sub.keeps k) e) (places g) a.0)
    a.1

pub is_tree-larger : (g : Digraph) (P Q : List Bool) → IsSubpart P Q → (most : ℤ) (ks : List ℕ) → IsTrue (is_tree g P most ks) → IsTrue (is_tree g Q most ks)
is_tree-larger g P Q s most ks h =
    let a = and_parts _ (int_le (pos (weight_of g ks)) most) h in
    let b = and_parts (list_all (present P) ks) (is_spanning_tree g ks) a.0 in
    and_from _ (int_le (pos (weight_of g ks)) most) (and_from (list_all (present Q) ks) (is_spanning_tree g ks) (list_all_weaker (present P) (present Q) s.keeps ks b.0) b.1) a.1

-- the amounts listed are still a flow
pub is_flow_of-larger : (g : Digraph) (P Q : List Bool) → IsSubpart P Q → (s t : ℕ) (least : ℤ) (amounts : List Amount) → IsTrue (is_flow_of g P s t least amounts) → IsTrue (is_flow_of g Q s t least amounts)
is_flow_of-larger g P Q sub s t least amounts h =
    let f : ℕ → ℕ = amount_at amounts in
    let a = and_parts (is_distinct (map (λ a. a.edge) amounts) && is_flow g P s t f) (int_le least (value_of g s f)) h in
    let b = and_parts (is_distinct (map (λ a. a.edge) amounts)) (is_flow g P s t f) a.0 in
    and_from (is_distinct (map (λ a. a.edge) amounts) && is_flow g Q s t f) (int_le least (value_of g s f))
    (and_from (is_distinct (map (λ a. a.edge) amounts)) (is_flow g Q s t f) b.0 (is_flow-larger g P Q sub s t f b.1)) a.1

-- ---- to a smaller part

-- what no edge of a part does, no edge of a smaller part does
none_smaller : (p q b : Bool) → (IsTrue p → IsTrue q) → IsTrue (not (q && b)) → IsTrue (not (p && b))
none_smaller false q b f h = refl
none_smaller true true b f h = h
none_smaller true false b f h = absurd (let e = f refl in cc)

no_edge-smaller : (g : Digraph) (P Q : List Bool) → IsSubpart P Q → (test : ℕ → Bool)
    → IsTrue (list_all (λ k. not (present Q k && test k)) (places g)) → IsTrue (list_all (λ k. not (present P k && test k)) (places g))
no_edge-smaller g P Q sub test = list_all_weaker (λ k. not (present Q k && test k)) (λ k. not (present P k && test k))
    (λ k h. none_smaller (present P k) (present Q k) (test k) (sub.keeps k) h) (places g)

pub is_cut-smaller : (g : Digraph) (P Q : List Bool) → IsSubpart P Q → (u v : ℕ) (s : List ℕ) → IsTrue (is_cut g Q u v s) → IsTrue (is_cut g P u v s)
is_cut-smaller g P Q sub u v s h =
    let a = and_parts (has s u && not (has s v)) (list_all (λ k. not (present Q k && leads_out s (edge_at g k))) (places g)) h in
    and_from (has s u && not (has s v)) (list_all (λ k. not (present P k && leads_out s (edge_at g k))) (places g))
    a.0 (no_edge-smaller g P Q sub (λ k. leads_out s (edge_at g k)) a.1)

pub is_labelling-smaller : (g : Digraph) (P Q : List Bool) → IsSubpart P Q → (u v : ℕ) (limit : Limit) (ls : List Label)
    → IsTrue (is_labelling g Q u v limit ls) → IsTrue (is_labelling g P u v limit ls)
is_labelling-smaller g P Q sub u v limit ls h =
    let label : ℕ → ℤ = label_at ls (bound_of limit) in
    let ends : Bool = is_distinct (map (λ l. l.node) ls) && int_eq (label u) (pos 0) && int_lt (bound_of limit) (label v) in
    let a = and_parts ends (list_all (λ k. not (present Q k && is_tense label limit (edge_at g k))) (places g)) h in
    and_from ends (list_all (λ k. not (present P k && is_tense label limit (edge_at g k))) (places g))
    a.0 (no_edge-smaller g P Q sub (λ k. is_tense label limit (edge_at g k)) a.1)

-- a smaller part weighs less
total_smaller : (w : ℕ → ℕ) (P Q : List Bool) → IsSubpart P Q → (test : ℕ → Bool) (ks : List ℕ) → total w (λ k. present P k && test k) ks ≤ total w (λ k. present Q k && test k) ks
total_smaller w P Q sub test [] = omega arith
total_smaller w P Q sub test (k ∷ ks) = one (present P k) (present Q k) (test k) (sub.keeps k) _ _ (total_smaller w P Q sub test ks)
  where
    one : (p q b : Bool) → (IsTrue p → IsTrue q) → (r r' : ℕ) → r ≤ r' → (if (p && b) then w k else 0) + r ≤ (if (q && b) then w k else 0) + r'
    one false false b f r r' le = omega (arith, le)
    one false true true f r r' le = omega (arith, le)
    one false true false f r r' le = omega (arith, le)
    one true true true f r r' le = omega (arith, le)
    one true true false f r r' le = omega (arith, le)
    one true false b f r r' le = absurd (let e = f refl in cc)

pub is_flow_cut-smaller : (g : Digraph) (P Q : List Bool) → IsSubpart P Q → (s t : ℕ) (least : ℤ) (set : List ℕ)
    → IsTrue (is_flow_cut g Q s t least set) → IsTrue (is_flow_cut g P s t least set)
is_flow_cut-smaller g P Q sub s t least set h =
    let a = and_parts (has set s && not (has set t)) (int_lt (pos (weight_of g (present_by (leads_out set) g Q))) least) h in
    let w : ℕ → ℕ = λ k. (edge_at g k).weight in
    let test : ℕ → Bool = λ k. leads_out set (edge_at g k) in
    let less : weight_of g (present_by (leads_out set) g P) ≤ weight_of g (present_by (leads_out set) g Q) =
    rw (total_is w (λ k. present P k && test k) (places g), total_is w (λ k. present Q k && test k) (places g)) (total_smaller w P Q sub test (places g)) in
    let below : pos (weight_of g (present_by (leads_out set) g Q)) <ℤ least = lt_from_test _ _ a.1 in
    and_from (has set s && not (has set t)) (int_lt (pos (weight_of g (present_by (leads_out set) g P))) least)
    a.0 (test_from_lt (pos (weight_of g (present_by (leads_out set) g P))) least (omega (arith, ints, less, below)))
  where
    test_from_lt : (x y : ℤ) → x <ℤ y → IsTrue (int_lt x y)
    test_from_lt x y lt = grind (arith, ints)

pub is_split-smaller : (g : Digraph) (P Q : List Bool) → IsSubpart P Q → (s : List ℕ) → IsTrue (is_split g Q s) → IsTrue (is_split g P s)
is_split-smaller g P Q sub s h =
    let proper : Bool = list_any (has s) (nodes_of g) && not (list_all (has s) (nodes_of g)) in
    let a = and_parts proper (list_all (λ k. not (present Q k && crosses s (edge_at g k))) (places g)) h in
    and_from proper (list_all (λ k. not (present P k && crosses s (edge_at g k))) (places g))
    a.0 (no_edge-smaller g P Q sub (λ k. crosses s (edge_at g k)) a.1)

pub is_least-smaller : (g : Digraph) (P Q : List Bool) → IsSubpart P Q → (most : ℤ) (ks : List ℕ) → IsTrue (is_least g Q most ks) → IsTrue (is_least g P most ks)
is_least-smaller g P Q sub most ks h =
    let heavy : Bool = is_spanning_tree g ks && int_lt most (pos (weight_of g ks)) in
    let a = and_parts heavy (list_all (λ k. not (present Q k) || is_bridged g ks (edge_at g k)) (places g)) h in
    and_from heavy (list_all (λ k. not (present P k) || is_bridged g ks (edge_at g k)) (places g))
    a.0 (list_all_weaker (λ k. not (present Q k) || is_bridged g ks (edge_at g k)) (λ k. not (present P k) || is_bridged g ks (edge_at g k))
    (λ k e. bridged_smaller (present P k) (present Q k) (is_bridged g ks (edge_at g k)) (sub.keeps k) e) (places g) a.1)
  where
    bridged_smaller : (p q b : Bool) → (IsTrue p → IsTrue q) → IsTrue (not q || b) → IsTrue (not p || b)
    bridged_smaller false q b f e = refl
    bridged_smaller true true b f e = e
    bridged_smaller true false b f e = absurd (let x = f refl in cc)
