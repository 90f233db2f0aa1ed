-- A set of nodes shows that a predicate on flows fails, also where it rests on some of the absent edges that leave it alone.
use Rattle.std.proofs.Common.{◌≡◌, ℕ, ◌+◌, ◌<◌, ◌≤◌, Bool, true, false, not, ◌&&◌, ◌⊎◌, List, [], ◌∷◌, length, filter, sum_by, refl, sym, subst, inl, inr, arith, ℤ, pos, int_lt}
use Rattle.std.specs.Prelude.{IsTrue, All, if◌then◌else◌}
use Rattle.std.proofs.lemmas.Bool.{and_parts, and_from, both_ways, cases_Bool, not-true, not_from_false, false_from_ne_true}
use Rattle.std.proofs.lemmas.Int.{ints}
use Rattle.std.proofs.lemmas.List.FromFn.{length-map-range_with_len}
use Rattle.mono_graph.specs.Digraph.{Digraph, edge_at, has, leads_out, places, present, present_by, weight_of}
use Rattle.mono_graph.specs.Flows.{is_flow_cut}
use Rattle.mono_graph.proofs.CutsBoundFlows.{total, total_is}
use Rattle.mono_graph.proofs.Membership.{filter_has, has_filter, range_has}
use Rattle.mono_graph.proofs.Places.{present_below}
use Rattle.mono_graph.proofs.WeightSums.{sum_within}
use Rattle.mono_problem.specs.declared.atom.Predicate.TheVariants as kind
use Rattle.mono_steps.specs.declared.lemma.Witness.{Witness}
use Rattle.mono_steps.specs.declared.lemma.Witness.TheVariants as by
use Rattle.mono_theory.specs.declared.evidence.Evidence.{Evidence}
use Rattle.mono_theory.specs.Evidences.{all_but, IsEvidence}
use Rattle.mono_theory.specs.Resting.{absent_out}
use Rattle.mono_theory.proofs.EvidenceDecides.{not_in_all_but}
use Rattle.mono_graph.proofs.Pigeons.{all_has}
use Rattle.mono_theory.proofs.RestingOnAbsent.{leaving_are_absent}
use Rattle.mono_theory.proofs.WalksAsEvidence.{all_by, nodes-known}
use Rattle.mono_flow.specs.Flowing.{AreNeeded, IsCutEvidence}
use Rattle.mono_flow.proofs.DistinctEdges.{range_distinct}

-- ---- what leaves the set where all edges come that aren't named

total_split : (f : ℕ → ℕ) (p a b : ℕ → Bool) (ks : List ℕ) → ((k : ℕ) → IsTrue (p k) → IsTrue (a k) ⊎ IsTrue (b k)) → total f p ks ≤ total f a ks + total f b ks
total_split f p a b [] h = omega arith
total_split f p a b (k ∷ ks) h = one (p k) (a k) (b k) (h k) (total_split f p a b ks h)
  where
    one : (x y z : Bool) → (IsTrue x → IsTrue y ⊎ IsTrue z) → total f p ks ≤ total f a ks + total f b ks
        → (if x then f k else 0) + total f p ks ≤ ((if y then f k else 0) + total f a ks) + ((if z then f k else 0) + total f b ks)
    one false y z i le = omega (arith, le)
    one true true z i le = omega (arith, le)
    one true false true i le = omega (arith, le)
    one true false false i le = absurd (elim (i refl) [ inl e ↦ both_ways false refl e | inr e ↦ both_ways false refl e ])

-- an edge of that part isn't named
pub not_named : (g : Digraph) (named : List ℕ) (k : ℕ) → IsTrue (present (all_but g named) k) → IsTrue (not (has named k))
not_named g named k here =
    let low = present_below (all_but g named) k here in
    let lt : k < length g.edges = omega (arith, low, length-map-range_with_len (λ j. not (has named j)) 0 (length g.edges)) in
    not_from_false (has named k) (false_from_ne_true (has named k) (λ t. both_ways (present (all_but g named) k) (not_in_all_but g named k lt t) here))

leaving_without : (g : Digraph) (P : List Bool) (set named : List ℕ) (slack : ℕ) → AreNeeded g slack (absent_out g P set) named
    → weight_of g (present_by (leads_out set) g (all_but g named)) ≤ weight_of g (present_by (leads_out set) g P) + slack
leaving_without g P set named slack h =
    let f : ℕ → ℕ = λ k. (edge_at g k).weight in
    let out : ℕ → Bool = λ k. leads_out set (edge_at g k) in
    let p : ℕ → Bool = λ k. present (all_but g named) k && out k in
    let a : ℕ → Bool = λ k. present P k && out k in
    let b : ℕ → Bool = λ k. not (present P k) && (out k && not (has named k)) in
    let split : total f p (places g) ≤ total f a (places g) + total f b (places g) = total_split f p a b (places g) (λ k t.
    let parts = and_parts (present (all_but g named) k) (out k) t in
    elim (cases_Bool (present P k)) [
      | inl on ↦ inl (and_from (present P k) (out k) on parts.1)
      | inr off ↦ inr (and_from (not (present P k)) (out k && not (has named k)) (not_from_false (present P k) off) (and_from (out k) (not (has named k)) parts.1 (not_named g named k parts.0)))
    ]) in
    let others : sum_by f (filter b (places g)) ≤ sum_by f (filter (λ k. not (has named k)) (absent_out g P set)) =
    sum_within f (filter b (places g)) (filter (λ k. not (has named k)) (absent_out g P set)) (range_distinct b 0 (length g.edges)) (λ k t.
    let r = filter_has b (places g) k t in
    let parts = and_parts (not (present P k)) (out k && not (has named k)) r.1 in
    let leads = and_parts (out k) (not (has named k)) parts.1 in
    has_filter (λ j. not (has named j)) (absent_out g P set) k
    ((leaving_are_absent g P set).all k (let in-range = range_has 0 (length g.edges) k r.0 in omega (arith, in-range.1)) leads.0 (not-true (present P k) parts.0)) leads.1) in
    let slackened = h.others in
    omega (arith, split, others, slackened, total_is f p (places g), total_is f a (places g), total_is f b (places g))

-- ---- evidence

pub absent_known : (g : Digraph) (P : List Bool) (set : List ℕ) → All (λ k. k < length g.edges) (absent_out g P set)
absent_known g P set = all_by (λ k. k < length g.edges) (absent_out g P set) (λ k t. (all_has (λ j. (j < length g.edges) × (present P j ≡ false)) (absent_out g P set) k (leaving_are_absent g P set).absent t).0)

below_least : (w v slack : ℕ) (least : ℤ) → least ≡ pos (v + slack + 1) → w ≤ v + slack → IsTrue (int_lt (pos w) least)
below_least w v slack least e le = grind (arith, ints)

set_shows : (g : Digraph) (P : List Bool) (s t : ℕ) (least : ℤ) (set named : List ℕ) (weight slack : ℕ) → All (λ u. u < g.nodes) set → IsTrue (is_flow_cut g P s t least set)
    → weight ≡ weight_of g (present_by (leads_out set) g P) → least ≡ pos (weight + slack + 1) → AreNeeded g slack (absent_out g P set) named
    → IsEvidence g P (kind.Flow s t least) (record { witness = by.FlowCut set; edges = named })
set_shows g P s t least set named weight slack known cut weighs least-is needed =
    let leaving = leaving_without g P set named slack needed in
    record {
      known = nodes-known g set known;
      small = refl;
      sided = all_by (λ k. (k < length g.edges) × (present P k ≡ false)) named (λ k t. all_has (λ j. (j < length g.edges) × (present P j ≡ false)) (absent_out g P set) k (leaving_are_absent g P set).absent (needed.listed k t));
      used = λ i d lt. refl;
      passes = and_from (has set s && not (has set t)) (int_lt (pos (weight_of g (present_by (leads_out set) g (all_but g named)))) least) (and_parts (has set s && not (has set t)) (int_lt (pos (weight_of g (present_by (leads_out set) g P))) least) cut).0
          (below_least (weight_of g (present_by (leads_out set) g (all_but g named))) weight slack least least-is (omega (arith, leaving, weighs)));
    }

pub cut_shows : (g : Digraph) (P : List Bool) (s t : ℕ) (least : ℤ) (set : List ℕ) (weight slack : ℕ) (e : Evidence) → All (λ u. u < g.nodes) set → IsTrue (is_flow_cut g P s t least set)
    → weight ≡ weight_of g (present_by (leads_out set) g P) → least ≡ pos (weight + slack + 1) → IsCutEvidence g P slack set e → IsEvidence g P (kind.Flow s t least) e
cut_shows g P s t least set weight slack e known cut weighs least-is h =
    subst (λ (w : Witness). IsEvidence g P (kind.Flow s t least) (record { witness = w; edges = e.edges })) (sym h.witness)
    (set_shows g P s t least set e.edges weight slack known cut weighs least-is h.edges)
