use Rattle.std.proofs.Common.{◌≡◌, ℕ, suc, zero, ◌<◌, ◌≤◌, ◌⊎◌, List, [], ◌∷◌, refl, sym, subst, arith, inl, inr}
use Rattle.std.specs.Prelude.{IsTrue, ◌↔◌, All}
use Rattle.std.proofs.lemmas.List.Elements.{All-cons, All-nil}
use Rattle.mono_graph.specs.Walks.{is_path}
use Rattle.mono_graph.specs.Worked.{parallel, both}
use Rattle.mono_dynamic.specs.declared.walk_target.WalkTarget.{WalkTarget}
use Rattle.mono_dynamic.specs.Arrivals.{arrival_at, at_source}
use Rattle.mono_dynamic.specs.SearchTrees.{LeadsOn}
use Rattle.mono_dynamic.specs.Ways.{Ways, has_target, no_target, AreWaysTo, IsTarget}
use Rattle.mono_dynamic.specs.Worked.{arrival, with_way, within_weight, without_way}
use Rattle.mono_dynamic.proofs.Rows.{tree_alone}
use Rattle.mono_dynamic.proofs.WaysRows.{tree_first, priced_first, priced_alone, only_target, none_leads, none_for_nothing}
use Rattle.mono_dynamic.proofs.worked.ways_within_bounds.Goals as goal

alone_exact : (w : Ways) (t : WalkTarget) → (IsTrue (has_target w t) ↔ ((ks : List ℕ) × IsTrue (is_path (parallel 1 4) both 0 t.node t.limit ks)))
    → All (λ v. IsTrue (has_target w v) ↔ ((ks : List ℕ) × IsTrue (is_path (parallel 1 4) both 0 v.node v.limit ks))) (t ∷ [])
alone_exact w t h = All-cons (λ (v : WalkTarget). IsTrue (has_target w v) ↔ ((ks : List ℕ) × IsTrue (is_path (parallel 1 4) both 0 v.node v.limit ks))) t [] h
    (All-nil (λ (v : WalkTarget). IsTrue (has_target w v) ↔ ((ks : List ℕ) × IsTrue (is_path (parallel 1 4) both 0 v.node v.limit ks))))

first_needed : (t : WalkTarget) → IsTrue (has_target (with_way 0 1) t) → t.node ≡ 1 → (i : ℕ) → 0 < i → i < 2
    → ((v : WalkTarget) × IsTarget (t ∷ []) v × IsTrue (has_target (with_way 0 1) v) × (v.node ≡ (arrival_at (at_source 0 ∷ arrival 1 0 0 0 ∷ []) i).node)) ⊎ LeadsOn (at_source 0 ∷ arrival 1 0 0 0 ∷ []) i
first_needed t has node zero pos lt = absurd (omega arith)
first_needed t has node (suc zero) pos lt = inl (t, (0, omega arith, refl), has, node)
first_needed t has node (suc (suc i)) pos lt = absurd (omega arith)

-- the way by the first edge is all that is kept for a target that it leads to within the bound
first_kept : (t : WalkTarget) → IsTrue (has_target (with_way 0 1) t) → t.node ≡ 1 → IsTrue (is_path (parallel 1 4) both 0 t.node t.limit (0 ∷ [])) → AreWaysTo (parallel 1 4) both (t ∷ []) (with_way 0 1)
first_kept t has node path = record {
  tree = tree_first;
  priced = priced_first;
  exact = alone_exact (with_way 0 1) t (λ _. (0 ∷ [], path), λ _. has);
  needed = first_needed t has node;
}

pub returns-clause-below : goal.returns-clause-below
returns-clause-below c = first_kept (within_weight 3) refl refl refl

pub returns-clause-at : goal.returns-clause-at
returns-clause-at c = first_kept (within_weight 1) refl refl refl

pub returns-clause-beyond : goal.returns-clause-beyond
returns-clause-beyond c = record {
  tree = tree_alone (parallel 1 4) both 0;
  priced = priced_alone 1;
  exact = alone_exact (without_way 1) (within_weight 0) (λ there. absurd cc, λ path. absurd (none_for_nothing path.0 path.1));
  needed = λ i pos lt. absurd (omega arith);
}

pub returns-clause-kept_beyond : goal.returns-clause-kept_beyond
returns-clause-kept_beyond c = λ s. elim (s.needed 1 (omega arith) (omega arith)) [
  | inl o ↦ (let h = subst (λ (v : WalkTarget). IsTrue (has_target (with_way 0 1) v)) (sym (only_target (within_weight 0) o.0 o.1)) o.2 in cc)
  | inr leads ↦ none_leads 0 leads
]

pub returns-clause-lacking_at : goal.returns-clause-lacking_at
returns-clause-lacking_at c = λ s. (let there = (s.exact 0 no_target (omega arith)).1 (0 ∷ [], refl) in cc)

pub returns-clause-dearer : goal.returns-clause-dearer
returns-clause-dearer c = λ s. (let e : 4 ≤ 1 = s.priced.each 1 (1, omega arith, omega arith, refl) in omega (arith, e))

pub returns-clause-by_absent : goal.returns-clause-by_absent
returns-clause-by_absent c = λ s. (let h = (s.tree.led 1 (omega arith) (omega arith)).present in cc)

pub returns-clause-nothing_asked : goal.returns-clause-nothing_asked
returns-clause-nothing_asked c = λ s. elim (s.needed 1 (omega arith) (omega arith)) [
  | inl o ↦ (let lt = o.1.1 in omega (arith, lt))
  | inr leads ↦ none_leads 0 leads
]
