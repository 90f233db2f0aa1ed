use Rattle.std.proofs.Common.{◌≡◌, ℕ, suc, zero, ◌<◌, ◌⊎◌, List, [], ◌∷◌, refl, subst, arith, inl, inr}
use Rattle.std.specs.Prelude.{IsTrue, ◌↔◌}
use Rattle.mono_graph.specs.Digraph.{has}
use Rattle.mono_graph.specs.Walks.{is_walk}
use Rattle.mono_graph.specs.Worked.{pipe, both, first_alone}
use Rattle.mono_graph.proofs.Membership.{has_cons}
use Rattle.mono_dynamic.specs.Arrivals.{arrival_at, at_source, is_reached, AreReached, IsTree}
use Rattle.mono_dynamic.specs.SearchTrees.{LeadsOn}
use Rattle.mono_dynamic.specs.Worked.{arrival}
use Rattle.mono_dynamic.proofs.Followed.{tree_push}
use Rattle.mono_dynamic.proofs.Rows.{reached_by_test, tree_alone}
use Rattle.mono_dynamic.proofs.worked.ways_along_a_path.Goals as goal

only : (u v : ℕ) → IsTrue (has (u ∷ []) v) → u ≡ v
only u v h = elim (has_cons u v [] h) [ inl e ↦ e | inr none ↦ absurd cc ]

tree_one : IsTree (pipe 1 1) both 0 (at_source 0 ∷ arrival 1 0 0 0 ∷ [])
tree_one = tree_push (pipe 1 1) both 0 (at_source 0 ∷ []) (arrival 1 0 0 0) (tree_alone (pipe 1 1) both 0) (record { before = omega arith; known = omega arith; present = refl; from = refl; to = refl })

tree_two : IsTree (pipe 1 1) both 0 (at_source 0 ∷ arrival 1 0 0 0 ∷ arrival 2 1 1 0 ∷ [])
tree_two = tree_push (pipe 1 1) both 0 (at_source 0 ∷ arrival 1 0 0 0 ∷ []) (arrival 2 1 1 0) tree_one (record { before = omega arith; known = omega arith; present = refl; from = refl; to = refl })

none_beyond : AreReached (pipe 1 1) first_alone 0 (at_source 0 ∷ arrival 1 0 0 0 ∷ [])
none_beyond = reached_by_test (pipe 1 1) first_alone 0 (at_source 0 ∷ arrival 1 0 0 0 ∷ [])
    (tree_push (pipe 1 1) first_alone 0 (at_source 0 ∷ []) (arrival 1 0 0 0) (tree_alone (pipe 1 1) first_alone 0) (record { before = omega arith; known = omega arith; present = refl; from = refl; to = refl })) refl

first_needed : (i : ℕ) → 0 < i → i < 2 → IsTrue (has (1 ∷ []) (arrival_at (at_source 0 ∷ arrival 1 0 0 0 ∷ []) i).node) ⊎ LeadsOn (at_source 0 ∷ arrival 1 0 0 0 ∷ []) i
first_needed zero pos lt = absurd (omega arith)
first_needed (suc zero) pos lt = inl refl
first_needed (suc (suc i)) pos lt = absurd (omega arith)

last_needed : (i : ℕ) → 0 < i → i < 3 → IsTrue (has (2 ∷ []) (arrival_at (at_source 0 ∷ arrival 1 0 0 0 ∷ arrival 2 1 1 0 ∷ []) i).node) ⊎ LeadsOn (at_source 0 ∷ arrival 1 0 0 0 ∷ arrival 2 1 1 0 ∷ []) i
last_needed zero pos lt = absurd (omega arith)
last_needed (suc zero) pos lt = inr (2, omega arith, omega arith, refl)
last_needed (suc (suc zero)) pos lt = inl refl
last_needed (suc (suc (suc i))) pos lt = absurd (omega arith)

pub returns-clause-first : goal.returns-clause-first
returns-clause-first c = record {
  tree = tree_one;
  exact = λ v h. subst (λ (w : ℕ). IsTrue (is_reached (at_source 0 ∷ arrival 1 0 0 0 ∷ []) w) ↔ ((ks : List ℕ) × IsTrue (is_walk (pipe 1 1) both 0 w ks))) (only 1 v h) (λ _. (0 ∷ [], refl), λ _. refl);
  needed = record { each = first_needed };
}

pub returns-clause-last : goal.returns-clause-last
returns-clause-last c = record {
  tree = tree_two;
  exact = λ v h. subst (λ (w : ℕ). IsTrue (is_reached (at_source 0 ∷ arrival 1 0 0 0 ∷ arrival 2 1 1 0 ∷ []) w) ↔ ((ks : List ℕ) × IsTrue (is_walk (pipe 1 1) both 0 w ks))) (only 2 v h) (λ _. (0 ∷ 1 ∷ [], refl), λ _. refl);
  needed = record { each = last_needed };
}

pub returns-clause-source : goal.returns-clause-source
returns-clause-source c = record {
  tree = tree_alone (pipe 1 1) both 0;
  exact = λ v h. subst (λ (w : ℕ). IsTrue (is_reached (at_source 0 ∷ []) w) ↔ ((ks : List ℕ) × IsTrue (is_walk (pipe 1 1) both 0 w ks))) (only 0 v h) (λ _. ([], refl), λ _. refl);
  needed = record { each = λ i pos lt. absurd (omega arith) };
}

pub returns-clause-out_of_reach : goal.returns-clause-out_of_reach
returns-clause-out_of_reach c = record {
  tree = tree_alone (pipe 1 1) first_alone 0;
  exact = λ v h. subst (λ (w : ℕ). IsTrue (is_reached (at_source 0 ∷ []) w) ↔ ((ks : List ℕ) × IsTrue (is_walk (pipe 1 1) first_alone 0 w ks))) (only 2 v h)
      (λ there. absurd cc, λ walk. absurd (let there = (none_beyond.exact 2).1 walk in cc));
  needed = record { each = λ i pos lt. absurd (omega arith) };
}

pub returns-clause-first_target_alone : goal.returns-clause-first_target_alone
returns-clause-first_target_alone c = λ s. (let there = (s.exact 2 refl).1 (0 ∷ 1 ∷ [], refl) in cc)

none_leads : (j : ℕ) → 0 < j → j < 3 → (arrival_at (at_source 0 ∷ arrival 1 0 0 0 ∷ arrival 2 1 1 0 ∷ []) j).before ≡ 2 → ⊥
none_leads zero pos lt e = absurd (omega arith)
none_leads (suc zero) pos lt e = omega (arith, e)
none_leads (suc (suc zero)) pos lt e = omega (arith, e)
none_leads (suc (suc (suc j))) pos lt e = absurd (omega arith)

pub returns-clause-beyond_the_target : goal.returns-clause-beyond_the_target
returns-clause-beyond_the_target c = λ s. elim (s.needed.each 2 (omega arith) (omega arith)) [
  | inl asked ↦ cc
  | inr leads ↦ none_leads leads.0 leads.1 leads.2 leads.3
]

none_leads_on : (j : ℕ) → 0 < j → j < 2 → (arrival_at (at_source 0 ∷ arrival 1 0 0 0 ∷ []) j).before ≡ 1 → ⊥
none_leads_on zero pos lt e = absurd (omega arith)
none_leads_on (suc zero) pos lt e = omega (arith, e)
none_leads_on (suc (suc j)) pos lt e = absurd (omega arith)

pub returns-clause-towards_what_is_lacking : goal.returns-clause-towards_what_is_lacking
returns-clause-towards_what_is_lacking c = λ s. elim (s.needed.each 1 (omega arith) (omega arith)) [
  | inl asked ↦ cc
  | inr leads ↦ none_leads_on leads.0 leads.1 leads.2 leads.3
]

pub returns-clause-by_absent : goal.returns-clause-by_absent
returns-clause-by_absent c = λ s. (let h = (s.tree.led 1 (omega arith) (omega arith)).present in cc)
