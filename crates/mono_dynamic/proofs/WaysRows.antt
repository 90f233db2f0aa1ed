-- Ways over two parallel edges, the cheaper first.
use Rattle.std.proofs.Common.{◌≡◌, ℕ, suc, zero, ◌+◌, ◌<◌, ◌≤◌, List, [], ◌∷◌, refl, subst, arith, pos, int_le}
use Rattle.std.specs.Prelude.{IsTrue, slice_index_or}
use Rattle.std.proofs.lemmas.Int.{ints}
use Rattle.std.proofs.lemmas.Bool.{and_parts}
use Rattle.mono_graph.specs.declared.limit.Limit.TheVariants.{Weight}
use Rattle.mono_graph.specs.Digraph.{edge_at, weight_of}
use Rattle.mono_graph.specs.Walks.{cost_of, is_light, is_path, is_walk}
use Rattle.mono_graph.specs.Worked.{parallel, both, last_alone}
use Rattle.mono_dynamic.specs.declared.walk_target.WalkTarget.{WalkTarget}
use Rattle.mono_dynamic.specs.Arrivals.{arrival_at, at_source, IsTree}
use Rattle.mono_dynamic.specs.Costs.{label_of}
use Rattle.mono_dynamic.specs.SearchTrees.{LeadsOn}
use Rattle.mono_dynamic.specs.Ways.{no_target, IsPriced, IsTarget}
use Rattle.mono_dynamic.specs.Worked.{arrival, with_way, without_way}
use Rattle.mono_dynamic.proofs.CostRows.{least_both, least_last}
use Rattle.mono_dynamic.proofs.Followed.{tree_push}
use Rattle.mono_dynamic.proofs.Rows.{tree_alone}

pub tree_first : IsTree (parallel 1 4) both 0 (at_source 0 ∷ arrival 1 0 0 0 ∷ [])
tree_first = tree_push (parallel 1 4) both 0 (at_source 0 ∷ []) (arrival 1 0 0 0) (tree_alone (parallel 1 4) both 0) (record { before = omega arith; known = omega arith; present = refl; from = refl; to = refl })

by_first : (i k : ℕ) → 0 < i → i < 2 → (arrival_at (at_source 0 ∷ arrival 1 0 0 0 ∷ []) i).place ≡ k → 0 ≡ k
by_first zero k more lt e = absurd (omega arith)
by_first (suc zero) k more lt e = e
by_first (suc (suc i)) k more lt e = absurd (omega arith)

pub priced_first : IsPriced (parallel 1 4) (with_way 0 1)
priced_first = record {
  each = λ k r. subst (λ (j : ℕ). label_of (0 ∷ 1 ∷ []) (edge_at (parallel 1 4) j).from + cost_of (Weight (pos 9)) (edge_at (parallel 1 4) j) ≤ label_of (0 ∷ 1 ∷ []) (edge_at (parallel 1 4) j).to) (by_first r.0 k r.1 r.2 r.3)
      (let e : 1 ≤ 1 = omega arith in e);
}

pub priced_alone : (label : ℕ) → IsPriced (parallel 1 4) (without_way label)
priced_alone label = record { each = λ k r. absurd (let some = r.1 in let lt = r.2 in omega (arith, some, lt)) }

pub only_target : (t v : WalkTarget) → IsTarget (t ∷ []) v → t ≡ v
only_target t v h = here h.0 h.1 h.2
  where
    here : (i : ℕ) → i < 1 → slice_index_or (t ∷ []) i no_target ≡ v → t ≡ v
    here zero lt e = e
    here (suc i) lt e = absurd (omega arith)

pub none_leads : (k : ℕ) → LeadsOn (at_source 0 ∷ arrival 1 k 0 0 ∷ []) 1 → ⊥
none_leads k l = on l.0 l.1 l.2 l.3
  where
    on : (j : ℕ) → 0 < j → j < 2 → (arrival_at (at_source 0 ∷ arrival 1 k 0 0 ∷ []) j).before ≡ 1 → ⊥
    on zero more lt e = absurd (omega arith)
    on (suc zero) more lt e = omega (arith, e)
    on (suc (suc j)) more lt e = absurd (omega arith)

low : (c b : ℕ) → IsTrue (int_le (pos c) (pos b)) → c ≤ b
low c b h = grind (arith, ints)

-- no walk weighs nothing, and once the cheaper edge went none weighs 3
pub none_for_nothing : (ks : List ℕ) → IsTrue (is_path (parallel 1 4) both 0 1 (Weight (pos 0)) ks) → ⊥
none_for_nothing ks path =
    let parts = and_parts (is_walk (parallel 1 4) both 0 1 ks) (is_light (Weight (pos 0)) (parallel 1 4) ks) path in
    let far : 1 ≤ weight_of (parallel 1 4) ks = least_both.least 1 ks parts.0 in
    let light : weight_of (parallel 1 4) ks ≤ 0 = low (weight_of (parallel 1 4) ks) 0 parts.1 in
    omega (arith, far, light)

pub none_for_three : (ks : List ℕ) → IsTrue (is_path (parallel 1 4) last_alone 0 1 (Weight (pos 3)) ks) → ⊥
none_for_three ks path =
    let parts = and_parts (is_walk (parallel 1 4) last_alone 0 1 ks) (is_light (Weight (pos 3)) (parallel 1 4) ks) path in
    let far : 4 ≤ weight_of (parallel 1 4) ks = least_last.least 1 ks parts.0 in
    let light : weight_of (parallel 1 4) ks ≤ 3 = low (weight_of (parallel 1 4) ks) 3 parts.1 in
    omega (arith, far, light)
