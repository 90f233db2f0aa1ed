-- Going over the present edges in an order, as long as they rise in weight.
use Rattle.std.proofs.Common.{◌≡◌, ℕ, ◌+◌, ◌<◌, ◌≤◌, Bool, true, false, cond, List, [], ◌∷◌, ◌++◌, length, filter, get_or, refl, sym, ap, subst, ◌∙◌, inl, inr, arith, take, append-nil}
use Rattle.std.specs.Prelude.{IsTrue, IsPermutation}
use Rattle.std.specs.List.Sorted.{IsNonDecreasingBy}
use Rattle.std.proofs.lemmas.List.{take_more, take_all}
use Rattle.std.proofs.lemmas.List.Elements.{filter-append}
use Rattle.mono_graph.specs.Digraph.{Digraph, edge_at, has, places, present}
use Rattle.mono_graph.proofs.Membership.{has_append_cases}
use Rattle.mono_trees.specs.Tells.{Tells}
use Rattle.mono_trees.specs.Grown.{AreNoHeavier, IsForest, IsGrown}
use Rattle.mono_trees.proofs.Growing.{grown_as, grown_none, one_of}
use Rattle.mono_trees.proofs.Finding.{forest_from}

-- the forest of the first so many of the order; no present edge of these is heavier than the heaviest, and where the
-- order rises, no later one is lighter
pub record IsGrowing (g : Digraph) (P : List Bool) (order : List ℕ) (at heaviest : ℕ) (chosen labels : List ℕ) : Type 0 where
  pub grown : IsGrown g (filter (present P) (take at order)) chosen labels
  pub below : AreNoHeavier g (filter (present P) (take at order)) heaviest
  pub above : IsNonDecreasingBy (λ k. (edge_at g k).weight) order → (n : ℕ) → at ≤ n → n < length order → heaviest ≤ (edge_at g (get_or order n 0)).weight

pub going_as : (g : Digraph) (P : List Bool) (order : List ℕ) (i heaviest heaviest' : ℕ) (chosen chosen' labels labels' : List ℕ) → heaviest' ≡ heaviest → chosen' ≡ chosen → labels' ≡ labels
    → IsGrowing g P order i heaviest chosen labels → IsGrowing g P order i heaviest' chosen' labels'
going_as g P order i heaviest heaviest' chosen chosen' labels labels' e f h going =
    subst (λ (n : ℕ). IsGrowing g P order i n chosen' labels') (sym e) (subst (λ (ks : List ℕ). IsGrowing g P order i heaviest ks labels') (sym f) (subst (λ (ls : List ℕ). IsGrowing g P order i heaviest chosen ls) (sym h) going))

passed : (P : List Bool) (order : List ℕ) (i : ℕ) → i < length order → filter (present P) (take (i + 1) order) ≡ filter (present P) (take i order) ++ cond (present P (get_or order i 0)) (get_or order i 0 ∷ []) []
passed P order i lt = ap (λ (xs : List ℕ). filter (present P) xs) (take_more order i 0 lt) ∙ filter-append (present P) (take i order) (get_or order i 0 ∷ [])

passed_absent : (P : List Bool) (order : List ℕ) (i : ℕ) → i < length order → present P (get_or order i 0) ≡ false → filter (present P) (take (i + 1) order) ≡ filter (present P) (take i order)
passed_absent P order i lt off =
    passed P order i lt ∙ (ap (λ (b : Bool). filter (present P) (take i order) ++ cond b (get_or order i 0 ∷ []) []) off ∙ append-nil (filter (present P) (take i order)))

passed_present : (P : List Bool) (order : List ℕ) (i : ℕ) → i < length order → present P (get_or order i 0) ≡ true → filter (present P) (take (i + 1) order) ≡ filter (present P) (take i order) ++ get_or order i 0 ∷ []
passed_present P order i lt on =
    passed P order i lt ∙ ap (λ (b : Bool). filter (present P) (take i order) ++ cond b (get_or order i 0 ∷ []) []) on

none_heavier : (g : Digraph) (k : ℕ) → IsTrue (has [] k) → (edge_at g k).weight ≤ 0
none_heavier g k h = absurd cc

pub going_none : (g : Digraph) (P : List Bool) (order chosen labels : List ℕ) → length labels ≡ g.nodes → Tells [] labels → chosen ≡ [] → IsGrowing g P order 0 0 chosen labels
going_none g P order chosen labels len tells none = record {
  grown = grown_as g [] [] chosen labels labels none refl (grown_none g labels len tells);
  below = none_heavier g;
  above = λ rising n le lt. omega arith;
}

pub going_skip : (g : Digraph) (P : List Bool) (order chosen labels : List ℕ) (i heaviest : ℕ) (here : Bool) → i < length order → here ≡ present P (get_or order i 0) → here ≡ false
    → IsGrowing g P order i heaviest chosen labels → IsGrowing g P order (i + 1) heaviest chosen labels
going_skip g P order chosen labels i heaviest here lt is off going =
    let same : filter (present P) (take (i + 1) order) ≡ filter (present P) (take i order) = passed_absent P order i lt (sym is ∙ off) in
    record {
      grown = subst (λ (ks : List ℕ). IsGrown g ks chosen labels) (sym same) going.grown;
      below = subst (λ (ks : List ℕ). AreNoHeavier g ks heaviest) (sym same) going.below;
      above = λ rising n le lt. going.above rising n (omega (arith, le)) lt;
    }

pub going_take : (g : Digraph) (P : List Bool) (order chosen chosen' labels labels' : List ℕ) (i heaviest weight : ℕ) (here : Bool) → i < length order
    → here ≡ present P (get_or order i 0) → here ≡ true → weight ≡ (edge_at g (get_or order i 0)).weight → heaviest ≤ weight
    → ((done : List ℕ) → IsGrown g done chosen labels → AreNoHeavier g done (edge_at g (get_or order i 0)).weight → IsGrown g (done ++ get_or order i 0 ∷ []) chosen' labels')
    → IsGrowing g P order i heaviest chosen labels → IsGrowing g P order (i + 1) weight chosen' labels'
going_take g P order chosen chosen' labels labels' i heaviest weight here lt is on weighs up step going =
    let more : filter (present P) (take (i + 1) order) ≡ filter (present P) (take i order) ++ get_or order i 0 ∷ [] = passed_present P order i lt (sym is ∙ on) in
    record {
      grown = subst (λ (ks : List ℕ). IsGrown g ks chosen' labels') (sym more) (step (filter (present P) (take i order)) going.grown lighter);
      below = subst (λ (ks : List ℕ). AreNoHeavier g ks weight) (sym more) within;
      above = later;
    }
  where
    lighter : (k : ℕ) → IsTrue (has (filter (present P) (take i order)) k) → (edge_at g k).weight ≤ (edge_at g (get_or order i 0)).weight
    lighter k h = let le : (edge_at g k).weight ≤ heaviest = going.below k h in omega (arith, le, up, weighs)

    within : (k : ℕ) → IsTrue (has (filter (present P) (take i order) ++ get_or order i 0 ∷ []) k) → (edge_at g k).weight ≤ weight
    within k h = elim (has_append_cases (filter (present P) (take i order)) (get_or order i 0 ∷ []) k h) [
      | inl old ↦ let le : (edge_at g k).weight ≤ heaviest = going.below k old in omega (arith, le, up)
      | inr new ↦ subst (λ (j : ℕ). (edge_at g j).weight ≤ weight) (one_of (get_or order i 0) k new) (omega (arith, weighs))
    ]

    later : IsNonDecreasingBy (λ k. (edge_at g k).weight) order → (n : ℕ) → i + 1 ≤ n → n < length order → weight ≤ (edge_at g (get_or order n 0)).weight
    later rising n le below =
        let rises : (edge_at g (get_or order i 0)).weight ≤ (edge_at g (get_or order n 0)).weight = rising i n 0 (omega (arith, le)) below in
        omega (arith, weighs, rises)

-- a lighter edge shows that the order doesn't rise
pub going_down : (g : Digraph) (P : List Bool) (order chosen labels : List ℕ) (i heaviest weight : ℕ) → i < length order → weight ≡ (edge_at g (get_or order i 0)).weight → weight < heaviest
    → IsGrowing g P order i heaviest chosen labels → IsNonDecreasingBy (λ k. (edge_at g k).weight) order → ⊥
going_down g P order chosen labels i heaviest weight lt weighs down going rising =
    let up : heaviest ≤ (edge_at g (get_or order i 0)).weight = going.above rising i (omega arith) lt in
    omega (arith, weighs, up, down)

pub going_done : (g : Digraph) (P : List Bool) (order chosen chosen' labels : List ℕ) (i heaviest : ℕ) → IsPermutation (places g) order → length order ≤ i → chosen' ≡ chosen
    → IsGrowing g P order i heaviest chosen labels → IsForest g P chosen' labels
going_done g P order chosen chosen' labels i heaviest perm all same going =
    forest_from g P order chosen' labels perm (subst (λ (ks : List ℕ). IsGrown g (filter (present P) ks) chosen' labels) (take_all i order all)
    (subst (λ (cs : List ℕ). IsGrown g (filter (present P) (take i order)) cs labels) (sym same) going.grown))
