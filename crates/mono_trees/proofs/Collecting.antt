-- Going over the absent edges in an order, as long as they rise in weight, and collecting those that a tree doesn't bridge.
use Rattle.std.proofs.Common.{◌≡◌, ℕ, ◌+◌, ◌<◌, ◌≤◌, Bool, true, false, not, ◌⊎◌, List, [], ◌∷◌, ◌++◌, length, get_or, sym, ap, subst, ◌∙◌, inl, inr, arith, take}
use Rattle.std.specs.Prelude.{IsTrue, IsPermutation, ◌==◌}
use Rattle.std.specs.List.Sorted.{IsNonDecreasingBy}
use Rattle.std.proofs.lemmas.Bool.{both_ways, not-true, not_from_false}
use Rattle.std.proofs.lemmas.List.{take_more, take_all}
use Rattle.std.proofs.lemmas.List.Sorted.{list_any-IsPermutation}
use Rattle.mono_graph.specs.declared.edge.Edge.{Edge}
use Rattle.mono_graph.specs.Digraph.{Digraph, edge_at, has, places, present}
use Rattle.mono_graph.specs.Trees.{edges_at, is_bridged}
use Rattle.mono_graph.proofs.Membership.{has_append_cases, has_append_left, has_append_right, has_here, has_range}
use Rattle.mono_trees.specs.Tells.{Tells, same_label}
use Rattle.mono_trees.specs.Swept.{IsSwept}
use Rattle.mono_trees.specs.Unbridged.{IsUnbridged, AreUnbridged}
use Rattle.mono_trees.proofs.Growing.{one_of}
use Rattle.mono_trees.proofs.Sweeping.{tested_at, bridged_same}

-- The labels are those of the tree's first edges, none of them heavier than the heaviest; the edges are the unbridged
-- ones of the first so many of the order; where the order rises, no later one is lighter than the heaviest.
pub record IsCollecting (g : Digraph) (P : List Bool) (tree order : List ℕ) (index at heaviest : ℕ) (edges labels : List ℕ) : Type 0 where
  pub len : length labels ≡ g.nodes
  pub tells : Tells (edges_at g (take at tree)) labels
  pub within : at ≤ length tree
  pub light : (i : ℕ) → i < at → (edge_at g (get_or tree i 0)).weight ≤ heaviest
  pub only : (k : ℕ) → IsTrue (has edges k) → IsUnbridged g P tree k
  pub all : (k : ℕ) → IsTrue (has (take index order) k) → IsUnbridged g P tree k → IsTrue (has edges k)
  pub above : IsNonDecreasingBy (λ k. (edge_at g k).weight) order → (n : ℕ) → index ≤ n → n < length order → heaviest ≤ (edge_at g (get_or order n 0)).weight

pub collecting_as : (g : Digraph) (P : List Bool) (tree order : List ℕ) (i at at' heaviest heaviest' : ℕ) (edges edges' labels labels' : List ℕ) → heaviest' ≡ heaviest → at' ≡ at → edges' ≡ edges → labels' ≡ labels
    → IsCollecting g P tree order i at heaviest edges labels → IsCollecting g P tree order i at' heaviest' edges' labels'
collecting_as g P tree order i at at' heaviest heaviest' edges edges' labels labels' e d f h going =
    subst (λ (n : ℕ). IsCollecting g P tree order i at' n edges' labels') (sym e) (subst (λ (n : ℕ). IsCollecting g P tree order i n heaviest edges' labels') (sym d)
    (subst (λ (ks : List ℕ). IsCollecting g P tree order i at heaviest ks labels') (sym f) (subst (λ (ls : List ℕ). IsCollecting g P tree order i at heaviest edges ls) (sym h) going)))

-- one more of the order
more_at : (order : List ℕ) (i k : ℕ) → i < length order → IsTrue (has (take (i + 1) order) k) → IsTrue (has (take i order) k) ⊎ (get_or order i 0 ≡ k)
more_at order i k lt h = elim (has_append_cases (take i order) (get_or order i 0 ∷ []) k (subst (λ (ks : List ℕ). IsTrue (has ks k)) (take_more order i 0 lt) h)) [
  | inl old ↦ inl old
  | inr new ↦ inr (one_of (get_or order i 0) k new)
]

pub collecting_none : (g : Digraph) (P : List Bool) (tree order edges labels : List ℕ) → length labels ≡ g.nodes → Tells [] labels → edges ≡ [] → IsCollecting g P tree order 0 0 0 edges labels
collecting_none g P tree order edges labels len tells none = record {
  len = len;
  tells = tells;
  within = omega arith;
  light = λ i lt. absurd (omega arith);
  only = λ k t. absurd (let h : IsTrue (has [] k) = subst (λ (ks : List ℕ). IsTrue (has ks k)) none t in cc);
  all = λ k t u. absurd (let h : IsTrue (has [] k) = t in cc);
  above = λ rising n le lt. omega arith;
}

-- a present edge isn't looked at
pub collecting_skip : (g : Digraph) (P : List Bool) (tree order edges labels : List ℕ) (i at heaviest : ℕ) → i < length order → present P (get_or order i 0) ≡ true
    → IsCollecting g P tree order i at heaviest edges labels → IsCollecting g P tree order (i + 1) at heaviest edges labels
collecting_skip g P tree order edges labels i at heaviest lt on h = record {
  len = h.len;
  tells = h.tells;
  within = h.within;
  light = h.light;
  only = h.only;
  all = λ k t u. elim (more_at order i k lt t) [
    | inl old ↦ h.all k old u
    | inr e ↦ absurd (both_ways (present P k) u.absent (subst (λ (j : ℕ). present P j ≡ true) e on))
  ];
  above = λ rising n le below. h.above rising n (omega (arith, le)) below;
}

-- where the order rises, no later edge is lighter than the one looked at
later : (g : Digraph) (order : List ℕ) (i weight : ℕ) → i < length order → weight ≡ (edge_at g (get_or order i 0)).weight
    → IsNonDecreasingBy (λ k. (edge_at g k).weight) order → (n : ℕ) → i + 1 ≤ n → n < length order → weight ≤ (edge_at g (get_or order n 0)).weight
later g order i weight lt weighs rising n le below =
    let rises : (edge_at g (get_or order i 0)).weight ≤ (edge_at g (get_or order n 0)).weight = rising i n 0 (omega (arith, le)) below in
    omega (arith, weighs, rises)

-- an absent edge that the tree doesn't bridge is collected
pub collecting_take : (g : Digraph) (P : List Bool) (tree order edges labels labels' : List ℕ) (i at at' heaviest : ℕ) (edge : Edge) (joined : Bool) → i < length order → get_or order i 0 < length g.edges
    → present P (get_or order i 0) ≡ false → edge ≡ edge_at g (get_or order i 0) → edge.from < g.nodes → edge.to < g.nodes → IsNonDecreasingBy (λ k. (edge_at g k).weight) tree
    → IsSwept g tree labels' at' edge.weight → joined ≡ same_label labels' edge.from edge.to → joined ≡ false
    → IsCollecting g P tree order i at heaviest edges labels → IsCollecting g P tree order (i + 1) at' edge.weight (edges ++ get_or order i 0 ∷ []) labels'
collecting_take g P tree order edges labels labels' i at at' heaviest edge joined lt fits off is from to rising swept says alone h =
    let apart : is_bridged g tree (edge_at g (get_or order i 0)) ≡ false = tested_at g tree order labels' i at' edge joined false rising is swept from to says alone in
    let here : IsUnbridged g P tree (get_or order i 0) = record { place = fits; absent = off; apart = not_from_false (is_bridged g tree (edge_at g (get_or order i 0))) apart } in
    record {
      len = swept.len;
      tells = swept.tells;
      within = swept.within;
      light = swept.light;
      only = λ k t. elim (has_append_cases edges (get_or order i 0 ∷ []) k t) [
        | inl old ↦ h.only k old
        | inr new ↦ subst (λ (j : ℕ). IsUnbridged g P tree j) (one_of (get_or order i 0) k new) here
      ];
      all = λ k t u. elim (more_at order i k lt t) [
        | inl old ↦ has_append_left edges (get_or order i 0 ∷ []) k (h.all k old u)
        | inr e ↦ has_append_right edges (get_or order i 0 ∷ []) k (subst (λ (j : ℕ). IsTrue (has (get_or order i 0 ∷ []) j)) e (has_here (get_or order i 0) []))
      ];
      above = later g order i edge.weight lt (ap (λ (e : Edge). e.weight) is);
    }

-- one that it bridges isn't
pub collecting_pass : (g : Digraph) (P : List Bool) (tree order edges labels labels' : List ℕ) (i at at' heaviest : ℕ) (edge : Edge) (joined : Bool) → i < length order
    → edge ≡ edge_at g (get_or order i 0) → edge.from < g.nodes → edge.to < g.nodes → IsNonDecreasingBy (λ k. (edge_at g k).weight) tree
    → IsSwept g tree labels' at' edge.weight → joined ≡ same_label labels' edge.from edge.to → joined ≡ true
    → IsCollecting g P tree order i at heaviest edges labels → IsCollecting g P tree order (i + 1) at' edge.weight edges labels'
collecting_pass g P tree order edges labels labels' i at at' heaviest edge joined lt is from to rising swept says met h =
    let bridged : is_bridged g tree (edge_at g (get_or order i 0)) ≡ true = tested_at g tree order labels' i at' edge joined true rising is swept from to says met in
    record {
      len = swept.len;
      tells = swept.tells;
      within = swept.within;
      light = swept.light;
      only = h.only;
      all = λ k t u. elim (more_at order i k lt t) [
        | inl old ↦ h.all k old u
        | inr e ↦ absurd (both_ways (is_bridged g tree (edge_at g k)) (not-true (is_bridged g tree (edge_at g k)) u.apart) (subst (λ (j : ℕ). is_bridged g tree (edge_at g j) ≡ true) e bridged))
      ];
      above = later g order i edge.weight lt (ap (λ (e : Edge). e.weight) is);
    }

-- a lighter edge shows that the order doesn't rise
pub collecting_down : (g : Digraph) (P : List Bool) (tree order edges labels : List ℕ) (i at heaviest weight : ℕ) → i < length order → weight ≡ (edge_at g (get_or order i 0)).weight → weight < heaviest
    → IsCollecting g P tree order i at heaviest edges labels → IsNonDecreasingBy (λ k. (edge_at g k).weight) order → ⊥
collecting_down g P tree order edges labels i at heaviest weight lt weighs down h rising =
    let up : heaviest ≤ (edge_at g (get_or order i 0)).weight = h.above rising i (omega arith) lt in
    omega (arith, weighs, up, down)

ordered : (g : Digraph) (order : List ℕ) (k : ℕ) → IsPermutation (places g) order → k < length g.edges → IsTrue (has order k)
ordered g order k perm lt = sym (list_any-IsPermutation (λ v. v == k) (places g) order perm) ∙ has_range 0 (length g.edges) k (omega arith) (omega (arith, lt))

pub collecting_done : (g : Digraph) (P : List Bool) (tree order edges labels : List ℕ) (i at heaviest : ℕ) → IsPermutation (places g) order → length order ≤ i
    → IsCollecting g P tree order i at heaviest edges labels → AreUnbridged g P tree edges
collecting_done g P tree order edges labels i at heaviest perm all h = record {
  only = h.only;
  all = λ k u. h.all k (subst (λ (ks : List ℕ). IsTrue (has ks k)) (sym (take_all i order all)) (ordered g order k perm u.place)) u;
}

-- ---- the tree's edges in another order

pub unbridged_as : (g : Digraph) (P : List Bool) (ks tree lent edges : List ℕ) → IsPermutation ks tree → lent ≡ tree → AreUnbridged g P lent edges → AreUnbridged g P ks edges
unbridged_as g P ks tree lent edges perm same h = record {
  only = λ k t. let u = h.only k t in record { place = u.place; absent = u.absent; apart = ap not (sym (equal k)) ∙ u.apart };
  all = λ k u. h.all k (record { place = u.place; absent = u.absent; apart = ap not (equal k) ∙ u.apart });
}
  where
    equal : (k : ℕ) → is_bridged g lent (edge_at g k) ≡ is_bridged g ks (edge_at g k)
    equal k = ap (λ (xs : List ℕ). is_bridged g xs (edge_at g k)) same ∙ bridged_same g ks tree (edge_at g k) perm
