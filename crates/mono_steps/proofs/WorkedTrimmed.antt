-- Which steps of the worked refutations with lemmas a later one names.
use Rattle.std.proofs.Common.{zero, suc, ◌≡◌, ℕ, ◌+◌, ◌<◌, [], ◌∷◌, length, refl, subst, sym, arith}
use Rattle.std.specs.Prelude.{IsTrue, Some, slice_get}
use Rattle.std.proofs.lemmas.Option.{same_Some}
use Rattle.mono_steps.specs.declared.step.Step.{Step}
use Rattle.mono_steps.specs.Renumbering.{names_step}
use Rattle.mono_steps.specs.Trimmed.{IsNamedLater}
use Rattle.mono_steps.specs.WorkedLemmas.{edge_1_reaches, chain, with_two_lemmas, with_one_lemma}

pub lemma_named : IsNamedLater 2 with_one_lemma 0
lemma_named = record { later = 1; after = omega arith; step = chain [] (3 ∷ 1 ∷ 2 ∷ []); is = refl; names = refl }

pub all_named : (k : ℕ) → k + 1 < length with_one_lemma → IsNamedLater 2 with_one_lemma k
all_named zero lt = lemma_named
all_named (suc k) lt = absurd (omega (arith, lt))

pub second_named : IsNamedLater 2 with_two_lemmas 1
second_named = record { later = 2; after = omega arith; step = chain [] (4 ∷ 1 ∷ 2 ∷ []); is = refl; names = refl }

pub first_not_named : IsNamedLater 2 with_two_lemmas 0 → ⊥
first_not_named h = by h.later h.step h.is h.names
  where
    by : (later : ℕ) (s : Step) → slice_get with_two_lemmas later ≡ Some s → IsTrue (names_step 2 s 0) → ⊥
    by zero s is names = let e = same_Some edge_1_reaches s is in let x = subst (λ (t : Step). IsTrue (names_step 2 t 0)) (sym e) names in cc
    by (suc zero) s is names = let e = same_Some edge_1_reaches s is in let x = subst (λ (t : Step). IsTrue (names_step 2 t 0)) (sym e) names in cc
    by (suc (suc zero)) s is names = let e = same_Some (chain [] (4 ∷ 1 ∷ 2 ∷ [])) s is in let x = subst (λ (t : Step). IsTrue (names_step 2 t 0)) (sym e) names in cc
    by (suc (suc (suc n))) s is names = cc

pub last_not_named : IsNamedLater 2 with_one_lemma 1 → ⊥
last_not_named h = by h.later h.after h.step h.is
  where
    by : (later : ℕ) → 1 < later → (s : Step) → slice_get with_one_lemma later ≡ Some s → ⊥
    by zero after s is = absurd (omega (arith, after))
    by (suc zero) after s is = absurd (omega (arith, after))
    by (suc (suc n)) after s is = cc
