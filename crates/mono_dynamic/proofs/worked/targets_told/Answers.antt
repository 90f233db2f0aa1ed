use Rattle.std.proofs.Common.{◌≡◌, ℕ, suc, zero, ◌<◌, ◌≤◌, false, List, [], ◌∷◌, refl, arith}
use Rattle.std.specs.Prelude.{IsTrue, All}
use Rattle.std.proofs.lemmas.List.Elements.{All-cons, All-nil}
use Rattle.mono_graph.specs.Walks.{is_path}
use Rattle.mono_graph.specs.Worked.{parallel, last_alone}
use Rattle.mono_graph.specs.Digraph.{present}
use Rattle.mono_dynamic.specs.declared.walk_target.WalkTarget.{WalkTarget}
use Rattle.mono_dynamic.specs.Arrivals.{at_source, IsTree}
use Rattle.mono_dynamic.specs.Ways.{Ways, has_target, no_target}
use Rattle.mono_dynamic.specs.Worked.{arrival, first_goes, with_way, within_weight, without_way}
use Rattle.mono_dynamic.proofs.Rows.{tree_alone}
use Rattle.mono_dynamic.proofs.WaysRows.{tree_first, priced_first, priced_alone, none_for_three}
use Rattle.mono_dynamic.proofs.worked.targets_told.Goals as goal

before_it_goes : (m : ℕ) → m < 1 → IsTree (parallel 1 4) (first_goes m) 0 (at_source 0 ∷ arrival 1 0 0 0 ∷ [])
before_it_goes zero lt = tree_first
before_it_goes (suc m) lt = absurd (omega arith)

lacking_alone : (w : Ways) (s : ℕ) → (has_target w (within_weight 3) ≡ false → (ks : List ℕ) → IsTrue (is_path (parallel 1 4) (first_goes s) 0 1 (within_weight 3).limit ks) → ⊥)
    → All (λ t. has_target w t ≡ false → (ks : List ℕ) → IsTrue (is_path (parallel 1 4) (first_goes s) 0 t.node t.limit ks) → ⊥) (within_weight 3 ∷ [])
lacking_alone w s h = All-cons (λ (t : WalkTarget). has_target w t ≡ false → (ks : List ℕ) → IsTrue (is_path (parallel 1 4) (first_goes s) 0 t.node t.limit ks) → ⊥) (within_weight 3) [] h
    (All-nil (λ (t : WalkTarget). has_target w t ≡ false → (ks : List ℕ) → IsTrue (is_path (parallel 1 4) (first_goes s) 0 t.node t.limit ks) → ⊥))

pub returns-clause-until_it_goes : goal.returns-clause-until_it_goes
returns-clause-until_it_goes c = record {
  tree = λ m le before. before_it_goes m before;
  priced = priced_first;
  past = omega arith;
  early = omega arith;
  lacking = lacking_alone (with_way 0 1) 0 (λ none ks path. absurd cc);
}

pub returns-clause-out_of_reach : goal.returns-clause-out_of_reach
returns-clause-out_of_reach c = record {
  tree = λ m le before. tree_alone (parallel 1 4) (first_goes m) 0;
  priced = priced_alone 4;
  past = tt;
  early = omega arith;
  lacking = lacking_alone (without_way 4) 1 (λ none ks path. none_for_three ks path);
}

pub returns-clause-nothing : goal.returns-clause-nothing
returns-clause-nothing c = record {
  tree = λ m le before. tree_alone (parallel 1 4) (first_goes m) 0;
  priced = priced_alone 4;
  past = tt;
  early = tt;
  lacking = tt;
}

pub returns-clause-unseen : goal.returns-clause-unseen
returns-clause-unseen c = λ t. (let h : IsTrue (present last_alone 0) = ((t.tree 1 (omega arith) tt).led 1 (omega arith) (omega arith)).present in cc)

pub returns-clause-too_early : goal.returns-clause-too_early
returns-clause-too_early c = λ t. t.lacking 0 no_target (omega arith) refl (0 ∷ []) refl

pub returns-clause-of_later_steps : goal.returns-clause-of_later_steps
returns-clause-of_later_steps c = λ t. (let e : 1 ≤ 0 = t.early in omega (arith, e))

pub returns-clause-lost_later : goal.returns-clause-lost_later
returns-clause-lost_later c = λ t. (let e : 1 ≤ 0 = t.past in omega (arith, e))

pub returns-clause-mispriced : goal.returns-clause-mispriced
returns-clause-mispriced c = λ t. (let e : 4 ≤ 1 = t.priced.each 1 (1, omega arith, omega arith, refl) in omega (arith, e))
