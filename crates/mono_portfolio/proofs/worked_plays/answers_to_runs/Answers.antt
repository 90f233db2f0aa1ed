use Rattle.std.proofs.Common.{◌≡◌, ℕ, zero, suc, ◌<◌, false, true, List, [], ◌∷◌, pos, length, refl, sym, ap, subst, arith}
use Rattle.std.specs.Prelude.{IsTrue, None, Some, slice_get}
use Rattle.std.proofs.lemmas.Option.{same_Some}
use Rattle.mono_steps.specs.declared.step.Step.{Step}
use Rattle.mono_steps.specs.Steps.{is_refutation}
use Rattle.mono_steps.specs.Journals.{chain_count}
use Rattle.mono_steps.specs.Renumbering.{names_step}
use Rattle.mono_steps.specs.Trimmed.{IsNamedLater, IsTrimRefutation}
use Rattle.mono_steps.specs.WorkedLemmas.{chain}
use Rattle.mono_portfolio.specs.TeamView.{TeamView, worker_at}
use Rattle.mono_search.specs.Worked.{both_signs, two_clauses, first_learned}
use Rattle.mono_portfolio.proofs.worked_plays.answers_to_runs.Goals as goal

pub returns-clause-fewer_chains : goal.returns-clause-fewer_chains
returns-clause-fewer_chains c = λ h. let e : suc zero ≡ chain_count h.made = ap (λ (t : TeamView). chain_count (worker_at t 0).made) h.after in omega (arith, e, h.are.chains)

pub returns-clause-beyond : goal.returns-clause-beyond
returns-clause-beyond c = λ t h. let few = h.are.few in omega (arith, few)

pub returns-clause-no_refutation : goal.returns-clause-no_refutation
returns-clause-no_refutation c = λ h.
    let e : first_learned ≡ h.made = ap (λ (t : TeamView). (worker_at t 0).made) h.after in
    let f : IsTrue (is_refutation two_clauses first_learned) = subst (λ (ss : List Step). IsTrue (is_refutation two_clauses ss)) (sym e) h.are.refutes in cc

pub returns-clause-refuted : goal.returns-clause-refuted
returns-clause-refuted c = record { made = chain [] (1 ∷ 2 ∷ []) ∷ []; are = record { refutes = refl; named = λ k lt. absurd (omega (arith, lt)); short = omega arith }; after = refl }

-- the last chain names the clauses alone
not_named : IsNamedLater 2 (chain (pos 1 ∷ []) (1 ∷ []) ∷ chain [] (1 ∷ 2 ∷ []) ∷ []) 0 → ⊥
not_named h = at h.later h.after h.is h.names
  where
    at : (k : ℕ) → 0 < k → slice_get (chain (pos 1 ∷ []) (1 ∷ []) ∷ chain [] (1 ∷ 2 ∷ []) ∷ []) k ≡ Some h.step → IsTrue (names_step 2 h.step 0) → ⊥
    at zero lt e n = omega (arith, lt)
    at (suc zero) lt e n = let f : false ≡ true = subst (λ (s : Step). IsTrue (names_step 2 s 0)) (sym (same_Some (chain [] (1 ∷ 2 ∷ [])) h.step e)) n in cc
    at (suc (suc k)) lt e n = let f : None ≡ Some h.step = e in cc

pub returns-clause-idle_step : goal.returns-clause-idle_step
returns-clause-idle_step c = λ h.
    let e : chain (pos 1 ∷ []) (1 ∷ []) ∷ chain [] (1 ∷ 2 ∷ []) ∷ [] ≡ h.made = ap (λ (t : TeamView). (worker_at t 0).made) h.after in
    let trim : IsTrimRefutation both_signs (chain (pos 1 ∷ []) (1 ∷ []) ∷ chain [] (1 ∷ 2 ∷ []) ∷ []) = subst (λ (ss : List Step). IsTrimRefutation both_signs ss) (sym e) h.are in
    not_named (trim.named 0 (omega arith))

pub returns-clause-false_clause : goal.returns-clause-false_clause
returns-clause-false_clause c = λ t h. let e = h.0.satisfies.0 in cc

pub returns-clause-model_keeps_made : goal.returns-clause-model_keeps_made
returns-clause-model_keeps_made c = λ h. let e : suc zero ≡ zero = ap (λ (t : TeamView). length (worker_at t 1).made) h.1 in cc

pub returns-clause-other_worker : goal.returns-clause-other_worker
returns-clause-other_worker c = λ h. let e : suc zero ≡ zero = ap (λ (t : TeamView). length (worker_at t 1).made) h.after in cc
