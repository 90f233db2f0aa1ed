use Rattle.std.proofs.Common.{◌≡◌, ℕ, zero, suc, ◌+◌, ◌<◌, ◌∷◌, [], true, false, refl, sym, subst, pos, arith}
use Rattle.std.specs.Prelude.{IsTrue, Some, None, slice_get}
use Rattle.std.proofs.lemmas.Option.{same_Some}
use Rattle.mono_steps.specs.declared.step.Step.{Step}
use Rattle.mono_steps.specs.Renumbering.{names_step}
use Rattle.mono_steps.specs.Trimmed.{IsNamedLater}
use Rattle.mono_steps.specs.WorkedLemmas.{chain}
use Rattle.mono_core.proofs.worked.cores.Goals as goal

pub returns-clause-core : goal.returns-clause-core
returns-clause-core c = record {
  kept = false ∷ true ∷ [];
  as_many = refl;
  is = refl;
  refutes = record { refutes = refl; named = λ k lt. absurd (omega (arith, lt)); short = omega arith };
  needed = (record { len = refl; satisfies = (refl, (λ k d lt. absurd (omega arith))) }, tt);
}

pub returns-clause-no_refutation : goal.returns-clause-no_refutation
returns-clause-no_refutation c = λ h. let e = h.refutes.refutes in cc

pub returns-clause-number_of_the_larger_list : goal.returns-clause-number_of_the_larger_list
returns-clause-number_of_the_larger_list c = λ h. let e = h.refutes.refutes in cc

pub returns-clause-named_later : goal.returns-clause-named_later
returns-clause-named_later c = record {
  kept = false ∷ true ∷ [];
  as_many = refl;
  is = refl;
  refutes = record { refutes = refl; named = later; short = omega arith };
  needed = (record { len = refl; satisfies = (refl, (λ k d lt. absurd (omega arith))) }, tt);
}
  where
    later : (k : ℕ) → k + 1 < 2 → IsNamedLater 2 (chain (pos 1 ∷ []) (1 ∷ []) ∷ chain [] (3 ∷ 2 ∷ []) ∷ []) k
    later zero lt = record { later = 1; after = omega arith; step = chain [] (3 ∷ 2 ∷ []); is = refl; names = refl }
    later (suc k) lt = absurd (omega (arith, lt))

-- the last chain names the clause and the assumption alone
first_not_named : IsNamedLater 2 (chain (pos 1 ∷ []) (1 ∷ []) ∷ chain [] (1 ∷ 2 ∷ []) ∷ []) 0 → ⊥
first_not_named h = at h.later h.after h.is h.names
  where
    at : (k : ℕ) → 0 < k → slice_get (chain (pos 1 ∷ []) (1 ∷ []) ∷ chain [] (1 ∷ 2 ∷ []) ∷ []) k ≡ Some h.step → IsTrue (names_step 2 h.step 0) → ⊥
    at zero lt e n = omega (arith, lt)
    at (suc zero) lt e n = let f : false ≡ true = subst (λ (s : Step). IsTrue (names_step 2 s 0)) (sym (same_Some (chain [] (1 ∷ 2 ∷ [])) h.step e)) n in cc
    at (suc (suc k)) lt e n = let f : None ≡ Some h.step = e in cc

pub returns-clause-idle_chain : goal.returns-clause-idle_chain
returns-clause-idle_chain c = λ h. first_not_named (h.refutes.named 0 (omega arith))
