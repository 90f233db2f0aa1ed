use Rattle.std.proofs.Common.{◌≡◌, ℕ, zero, suc, ◌<◌, false, true, [], ◌∷◌, refl, sym, subst, pos, arith}
use Rattle.std.specs.Prelude.{IsTrue, Some, None, slice_get}
use Rattle.std.proofs.lemmas.Option.{same_Some}
use Rattle.mono_steps.specs.declared.step.Step.{Step}
use Rattle.mono_steps.specs.New.{IsProgress}
use Rattle.mono_steps.specs.Renumbering.{names_step}
use Rattle.mono_steps.specs.Trimmed.{IsNamedLater, IsTrimRefutation}
use Rattle.mono_steps.specs.WorkedLemmas.{chain}
use Rattle.mono_steps.proofs.WorkedNew.{one_is_new}
use Rattle.mono_search.specs.Worked.{two_clauses, both_signs, first_learned, learned_behind_a_lemma}
use Rattle.mono_search.proofs.worked.solved_problems.Goals as goal

pub returns-clause-model : goal.returns-clause-model
returns-clause-model c = record { len = refl; satisfies = (refl, (λ k d lt. absurd (omega arith))) }

pub returns-clause-no_model : goal.returns-clause-no_model
returns-clause-no_model c = λ h. let e = h.satisfies.0 in cc

pub returns-clause-refutation : goal.returns-clause-refutation
returns-clause-refutation c = record { refutes = refl; named = λ k lt. absurd (omega (arith, lt)); short = omega arith }

pub returns-clause-no_refutation : goal.returns-clause-no_refutation
returns-clause-no_refutation c = λ (h : IsTrimRefutation two_clauses first_learned). let e : false ≡ true = h.refutes in cc

-- the last chain names the problem's clauses alone
first_not_named : IsNamedLater 2 (chain (pos 1 ∷ []) (1 ∷ []) ∷ chain [] (1 ∷ 2 ∷ []) ∷ []) 0 → ⊥
first_not_named h = at h.later h.after h.is h.names
  where
    at : (k : ℕ) → 0 < k → slice_get (chain (pos 1 ∷ []) (1 ∷ []) ∷ chain [] (1 ∷ 2 ∷ []) ∷ []) k ≡ Some h.step → IsTrue (names_step 2 h.step 0) → ⊥
    at zero lt e n = omega (arith, lt)
    at (suc zero) lt e n = let f : false ≡ true = subst (λ (s : Step). IsTrue (names_step 2 s 0)) (sym (same_Some (chain [] (1 ∷ 2 ∷ [])) h.step e)) n in cc
    at (suc (suc k)) lt e n = let f : None ≡ Some h.step = e in cc

pub returns-clause-step_too_many : goal.returns-clause-step_too_many
returns-clause-step_too_many c = λ (h : IsTrimRefutation both_signs (chain (pos 1 ∷ []) (1 ∷ []) ∷ chain [] (1 ∷ 2 ∷ []) ∷ [])). first_not_named (h.named 0 (omega arith))

pub returns-clause-progress : goal.returns-clause-progress
returns-clause-progress c = record { justified = refl; new = one_is_new two_clauses refl refl refl; chains = refl; few = omega arith; short = omega arith }

pub returns-clause-unjustified_lemma : goal.returns-clause-unjustified_lemma
returns-clause-unjustified_lemma c = λ (h : IsProgress two_clauses 1 learned_behind_a_lemma). let e : false ≡ true = h.justified in cc

pub returns-clause-too_few : goal.returns-clause-too_few
returns-clause-too_few c = λ (h : IsProgress two_clauses 2 first_learned). let e : 1 ≡ 2 = h.chains in omega (arith, e)
