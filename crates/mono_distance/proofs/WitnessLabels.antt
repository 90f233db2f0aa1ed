-- What labels that are witnesses say along the possibly present edges: each is at most what walks cost, and the last node's is above the bound.
use Rattle.std.proofs.Common.{◌≡◌, ℕ, zero, suc, ◌+◌, ◌≤◌, ◌&&◌, Bool, false, not, List, [], ◌∷◌, refl, ap, subst, ◌∙◌, arith, ℤ, pos, negsuc, ◌+ℤ◌, ◌≤ℤ◌, int_lt, int_le}
use Rattle.std.specs.Prelude.{IsTrue, ◌==◌}
use Rattle.std.specs.Ordering.{int_eq}
use Rattle.std.specs.List.{list_all}
use Rattle.std.proofs.lemmas.Bool.{and_parts, eqb-true}
use Rattle.std.proofs.lemmas.Bool.Decides.{Decides-int_eq}
use Rattle.std.proofs.lemmas.Int.{ints}
use Rattle.std.proofs.lemmas.List.Sums.{sum_by-cons}
use Rattle.mono_graph.specs.declared.label.Label.{Label}
use Rattle.mono_graph.specs.declared.limit.Limit.{Limit}
use Rattle.mono_graph.specs.declared.limit.Limit.TheVariants as limit
use Rattle.mono_graph.specs.Digraph.{Digraph, is_place, places, present, edge_at}
use Rattle.mono_graph.specs.Walks.{admits, is_walk, is_labelling, is_tense, label_at, bound_of, cost_of, leads, cost_along}
use Rattle.mono_graph.proofs.CutsBoundWalks.{IsPotential, labels_are_potential}
use Rattle.mono_paths.specs.Found.{HasBound}
use Rattle.mono_problem.specs.declared.atom.Predicate.{Predicate}
use Rattle.mono_problem.specs.declared.atom.Predicate.TheVariants as kind
use Rattle.mono_steps.specs.declared.lemma.Witness.{Witness}
use Rattle.mono_steps.specs.declared.lemma.Witness.TheVariants as by
use Rattle.mono_steps.specs.Witnesses.{rests_on_present, passes}
use Rattle.mono_distance.specs.Distances.{is_distance}
use Rattle.mono_distance.specs.Labels.{entry_in, value_by}
use Rattle.mono_distance.specs.Readings.{IsBelowEachWalk, above, over_by, over_in}
use Rattle.mono_distance.specs.SureLabels.{last_node, limit_of}
use Rattle.mono_distance.proofs.TableLabels.{label_is}

pub above_is : (l : Limit) → HasBound l → pos (above (bound_of l)) ≡ bound_of l +ℤ pos 1
above_is limit.Free b = absurd b
above_is (limit.Steps most) b = next most b.0
  where
    next : (x : ℤ) → negsuc 0 ≤ℤ x → pos (above x) ≡ x +ℤ pos 1
    next (pos n) e = omega (arith, ints)
    next (negsuc zero) e = refl
    next (negsuc (suc n)) e = absurd (omega (arith, ints, e))
above_is (limit.Weight most) b = next most b.0
  where
    next : (x : ℤ) → negsuc 0 ≤ℤ x → pos (above x) ≡ x +ℤ pos 1
    next (pos n) e = omega (arith, ints)
    next (negsuc zero) e = refl
    next (negsuc (suc n)) e = absurd (omega (arith, ints, e))

pub others_are_above : (l : Limit) (n : ℕ) → HasBound l → pos n ≡ bound_of l +ℤ pos 1 → n ≡ above (bound_of l)
others_are_above l n b e = (let h = above_is l b in omega (arith, ints, h, e))

-- along a walk labels rise by at most what it costs
rises_by_most : (g : Digraph) (P : List Bool) (l : Limit) (label : ℕ → ℤ) → IsPotential g P l label → (u : ℕ) (ks : List ℕ) (v : ℕ)
    → IsTrue (list_all (is_place g) ks) → IsTrue (list_all (present P) ks) → IsTrue (leads g u ks v) → label v ≤ℤ (label u +ℤ pos (cost_along l g ks))
rises_by_most g P l label c u [] v known here way = subst (λ (w : ℕ). label w ≤ℤ (label u +ℤ pos 0)) (eqb-true u v way) (omega (arith, ints))
rises_by_most g P l label c u (k ∷ ks) v known here way =
    let q = and_parts (is_place g k) (list_all (is_place g) ks) known in
    let p = and_parts (present P k) (list_all (present P) ks) here in
    let w = and_parts ((edge_at g k).from == u) (leads g (edge_at g k).to ks v) way in
    let step : label (edge_at g k).to ≤ℤ (label u +ℤ pos (cost_of l (edge_at g k))) =
    subst (λ (x : ℕ). label (edge_at g k).to ≤ℤ (label x +ℤ pos (cost_of l (edge_at g k)))) (eqb-true (edge_at g k).from u w.0) (c.step k q.0 p.0) in
    let rest : label v ≤ℤ (label (edge_at g k).to +ℤ pos (cost_along l g ks)) = rises_by_most g P l label c (edge_at g k).to ks v q.1 p.1 w.1 in
    let sums : cost_along l g (k ∷ ks) ≡ cost_of l (edge_at g k) + cost_along l g ks = sum_by-cons (λ j. cost_of l (edge_at g j)) k ks in
    rw sums (omega (arith, ints, step, rest))

-- a label that a labelling gives is at most what walks cost
labelled_below : (g : Digraph) (P : List Bool) (u w v : ℕ) (l : Limit) (ls : List Label) (ks : List ℕ) → HasBound l → IsTrue (is_labelling g P u w l ls) → IsTrue (is_walk g P u v ks) → over_in l ls v ≤ cost_along l g ks
labelled_below g P u w v l ls ks bound h way =
    let label : ℕ → ℤ = label_at ls (bound_of l) in
    let a = and_parts _ (list_all (λ k. not (present P k && is_tense label l (edge_at g k))) (places g)) h in
    let b = and_parts _ (int_lt (bound_of l) (label w)) a.0 in
    let c = and_parts _ (int_eq (label u) (pos 0)) b.0 in
    let zero-at : label u ≡ pos 0 = (Decides-int_eq (label u) (pos 0)).0 c.1 in
    let p = and_parts (list_all (is_place g) ks && list_all (present P) ks) (leads g u ks v) way in
    let k = and_parts (list_all (is_place g) ks) (list_all (present P) ks) p.0 in
    let along : label v ≤ℤ (label u +ℤ pos (cost_along l g ks)) = rises_by_most g P l label (labels_are_potential g P l label a.1) u ks v k.0 k.1 p.1 in
    let along' : label v ≤ℤ (pos 0 +ℤ pos (cost_along l g ks)) = subst (λ (z : ℤ). label v ≤ℤ (z +ℤ pos (cost_along l g ks))) zero-at along in
    let value = label_is ls (bound_of l) (above (bound_of l)) v (above_is l bound) in
    let far : value_by (above (bound_of l)) (entry_in ls v) ≤ cost_along l g ks = omega (arith, ints, value, along') in
    omega (arith, far)

pub up_to_above : (l : Limit) (n : ℕ) → HasBound l → n ≤ above (bound_of l) → IsTrue (int_le (pos n) (bound_of l +ℤ pos 1))
up_to_above l n b le = within (pos n) (bound_of l +ℤ pos 1) (let h = above_is l b in omega (arith, ints, h, le))
  where
    within : (x y : ℤ) → x ≤ℤ y → IsTrue (int_le x y)
    within x y e = grind (arith, ints)

pub none_below : (g : Digraph) (P : List Bool) (q : Predicate) (v : ℕ) → HasBound (limit_of q) → IsBelowEachWalk g P q v 0
none_below g P q v bound = record { below = λ ks w. omega arith; most = up_to_above (limit_of q) 0 bound (omega arith) }

-- what a witness against a predicate says is at most what walks cost
pub witness_below : (g : Digraph) (P : List Bool) (q : Predicate) (v : ℕ) (w : Witness) → HasBound (limit_of q) → IsTrue (is_distance q) → IsTrue (passes g P q w) → IsBelowEachWalk g P q v (over_by (limit_of q) v w)
witness_below g P (kind.Steps x y most) v (by.Label ls) bound d h = record {
  below = λ ks way. labelled_below g P x y v (limit.Steps most) ls ks bound h way;
  most = up_to_above (limit.Steps most) (over_in (limit.Steps most) ls v) bound (omega arith);
}
witness_below g P (kind.Distance x y most) v (by.Label ls) bound d h = record {
  below = λ ks way. labelled_below g P x y v (limit.Weight most) ls ks bound h way;
  most = up_to_above (limit.Weight most) (over_in (limit.Weight most) ls v) bound (omega arith);
}
witness_below g P q v (by.Path es) bound d h = none_below g P q v bound
witness_below g P q v (by.Cut es) bound d h = none_below g P q v bound
witness_below g P q v (by.Flow es) bound d h = none_below g P q v bound
witness_below g P q v (by.FlowCut es) bound d h = none_below g P q v bound
witness_below g P q v (by.Tree es) bound d h = none_below g P q v bound
witness_below g P q v (by.Split es) bound d h = none_below g P q v bound
witness_below g P q v (by.Least es) bound d h = none_below g P q v bound
witness_below g P q v (by.Cycle es) bound d h = none_below g P q v bound
witness_below g P q v (by.Order us) bound d h = none_below g P q v bound
witness_below g P (kind.Reach x y) v (by.Label ls) bound d h = absurd cc
witness_below g P (kind.Flow x y least) v (by.Label ls) bound d h = absurd cc
witness_below g P (kind.Tree most) v (by.Label ls) bound d h = absurd cc
witness_below g P kind.Acyclic v (by.Label ls) bound d h = absurd cc

-- ---- a witness against a predicate puts its last node above the bound

labelled_high : (g : Digraph) (P : List Bool) (u v : ℕ) (l : Limit) (ls : List Label) → HasBound l → IsTrue (is_labelling g P u v l ls) → admits l (over_in l ls v) ≡ false
labelled_high g P u v l ls bound h =
    let label : ℕ → ℤ = label_at ls (bound_of l) in
    let a = and_parts _ (list_all (λ k. not (present P k && is_tense label l (edge_at g k))) (places g)) h in
    let b = and_parts _ (int_lt (bound_of l) (label v)) a.0 in
    let value = label_is ls (bound_of l) (above (bound_of l)) v (above_is l bound) in
    let top = above_is l bound in
    let high : above (bound_of l) ≤ value_by (above (bound_of l)) (entry_in ls v) = far (bound_of l) (label v) (above (bound_of l)) (value_by (above (bound_of l)) (entry_in ls v)) top value b.1 in
    let most : over_in l ls v ≡ above (bound_of l) = omega (arith, high) in
    ap (λ (n : ℕ). admits l n) most ∙ beyond (bound_of l) (above (bound_of l)) top
  where
    far : (x y : ℤ) (m n : ℕ) → pos m ≡ x +ℤ pos 1 → pos n ≡ y → IsTrue (int_lt x y) → m ≤ n
    far x y m n e1 e2 lt = grind (arith, ints)

    beyond : (x : ℤ) (m : ℕ) → pos m ≡ x +ℤ pos 1 → int_le (pos m) x ≡ false
    beyond x m e = grind (arith, ints)

pub witness_high : (g : Digraph) (P : List Bool) (q : Predicate) (w : Witness) → HasBound (limit_of q) → IsTrue (is_distance q) → rests_on_present w ≡ false → IsTrue (passes g P q w) → admits (limit_of q) (over_by (limit_of q) (last_node q) w) ≡ false
witness_high g P (kind.Steps x y most) (by.Label ls) bound d sign h = labelled_high g P x y (limit.Steps most) ls bound h
witness_high g P (kind.Distance x y most) (by.Label ls) bound d sign h = labelled_high g P x y (limit.Weight most) ls bound h
witness_high g P (kind.Steps x y most) (by.Path es) bound d sign h = absurd cc
witness_high g P (kind.Distance x y most) (by.Path es) bound d sign h = absurd cc
witness_high g P (kind.Steps x y most) (by.Cut es) bound d sign h = absurd cc
witness_high g P (kind.Distance x y most) (by.Cut es) bound d sign h = absurd cc
witness_high g P (kind.Steps x y most) (by.Flow es) bound d sign h = absurd cc
witness_high g P (kind.Distance x y most) (by.Flow es) bound d sign h = absurd cc
witness_high g P (kind.Steps x y most) (by.FlowCut es) bound d sign h = absurd cc
witness_high g P (kind.Distance x y most) (by.FlowCut es) bound d sign h = absurd cc
witness_high g P (kind.Steps x y most) (by.Tree es) bound d sign h = absurd cc
witness_high g P (kind.Distance x y most) (by.Tree es) bound d sign h = absurd cc
witness_high g P (kind.Steps x y most) (by.Split es) bound d sign h = absurd cc
witness_high g P (kind.Distance x y most) (by.Split es) bound d sign h = absurd cc
witness_high g P (kind.Steps x y most) (by.Least es) bound d sign h = absurd cc
witness_high g P (kind.Distance x y most) (by.Least es) bound d sign h = absurd cc
witness_high g P (kind.Steps x y most) (by.Cycle es) bound d sign h = absurd cc
witness_high g P (kind.Distance x y most) (by.Cycle es) bound d sign h = absurd cc
witness_high g P (kind.Steps x y most) (by.Order us) bound d sign h = absurd cc
witness_high g P (kind.Distance x y most) (by.Order us) bound d sign h = absurd cc
witness_high g P (kind.Reach x y) w bound d sign h = absurd cc
witness_high g P (kind.Flow x y least) w bound d sign h = absurd cc
witness_high g P (kind.Tree most) w bound d sign h = absurd cc
witness_high g P kind.Acyclic w bound d sign h = absurd cc
