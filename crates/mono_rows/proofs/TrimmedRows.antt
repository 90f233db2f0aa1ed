-- Rows of trimmed refutations.
use Rattle.std.proofs.Common.{zero, suc, ◌≡◌, ℕ, ◌+◌, ◌<◌, ◌==◌, true, false, Bool, List, [], ◌∷◌, length, refl, ap, subst, sym, arith, ℤ, pos, negsuc, inl, inr}
use Rattle.std.specs.Prelude.{IsTrue, Some, slice_get, slice_index_or}
use Rattle.std.proofs.lemmas.Bool.{or_cases, eqb-true}
use Rattle.std.proofs.lemmas.Option.{same_Some}
use Rattle.mono_steps.specs.declared.lemma.Lemma.{Lemma}
use Rattle.mono_steps.specs.declared.step.Step.{Step}
use Rattle.mono_steps.specs.declared.step.Step.TheVariants as step
use Rattle.mono_steps.specs.Steps.{clause_of}
use Rattle.mono_steps.specs.Renumbering.{has_number, names_step}
use Rattle.mono_steps.specs.Trimmed.{trimmed_steps, IsNamedLater, IsTrimmed}
use Rattle.mono_steps.specs.WorkedLemmas.{barred, chain, with_one_lemma}
use Rattle.mono_rows.specs.Refutations.{turned_lemma, with_unnamed_lemma, with_turned_lemma}

-- ---- what the chain of a row names

-- beside two clauses of the problem it names one step
chain_names : (a k : ℕ) → IsTrue (has_number (a ∷ 1 ∷ 2 ∷ []) (2 + 1 + k)) → a ≡ 2 + 1 + k
chain_names a k h = elim (or_cases (a == 2 + 1 + k) (has_number (1 ∷ 2 ∷ []) (2 + 1 + k)) h) [
  | inl e ↦ eqb-true a (2 + 1 + k) e
  | inr r ↦ elim (or_cases (1 == 2 + 1 + k) (has_number (2 ∷ []) (2 + 1 + k)) r) [
    | inl e ↦ absurd (omega (arith, eqb-true 1 (2 + 1 + k) e))
    | inr q ↦ elim (or_cases (2 == 2 + 1 + k) false q) [
      | inl e ↦ absurd (omega (arith, eqb-true 2 (2 + 1 + k) e))
      | inr f ↦ absurd cc
    ]
  ]
]

lemma_names : (l : Lemma) (s : Step) (k : ℕ) → Some (step.Lemma l) ≡ Some s → IsTrue (names_step 2 s k) → ⊥
lemma_names l s k is names = let x = subst (λ (t : Step). IsTrue (names_step 2 t k)) (sym (same_Some (step.Lemma l) s is)) names in cc

last_names : (a : ℕ) (s : Step) (k : ℕ) → Some (chain [] (a ∷ 1 ∷ 2 ∷ [])) ≡ Some s → IsTrue (names_step 2 s k) → a ≡ 2 + 1 + k
last_names a s k is names = chain_names a k (subst (λ (t : Step). IsTrue (names_step 2 t k)) (sym (same_Some (chain [] (a ∷ 1 ∷ 2 ∷ [])) s is)) names)

-- ---- what it names is kept

pub closed_of_two : (l : Lemma) (a : ℕ) (bs : List Bool) → ((k : ℕ) → a ≡ 2 + 1 + k → IsTrue (slice_index_or bs k false))
    → (j k : ℕ) (s : Step) → slice_get (step.Lemma l ∷ chain [] (a ∷ 1 ∷ 2 ∷ []) ∷ []) j ≡ Some s → IsTrue (names_step 2 s k) → IsTrue (slice_index_or bs k false)
closed_of_two l a bs on zero k s is names = absurd (lemma_names l s k is names)
closed_of_two l a bs on (suc zero) k s is names = on k (last_names a s k is names)
closed_of_two l a bs on (suc (suc j)) k s is names = cc

pub closed_of_three : (l m : Lemma) (a : ℕ) (bs : List Bool) → ((k : ℕ) → a ≡ 2 + 1 + k → IsTrue (slice_index_or bs k false))
    → (j k : ℕ) (s : Step) → slice_get (step.Lemma l ∷ step.Lemma m ∷ chain [] (a ∷ 1 ∷ 2 ∷ []) ∷ []) j ≡ Some s → IsTrue (names_step 2 s k) → IsTrue (slice_index_or bs k false)
closed_of_three l m a bs on zero k s is names = absurd (lemma_names l s k is names)
closed_of_three l m a bs on (suc zero) k s is names = absurd (lemma_names m s k is names)
closed_of_three l m a bs on (suc (suc zero)) k s is names = on k (last_names a s k is names)
closed_of_three l m a bs on (suc (suc (suc j))) k s is names = cc

pub first_is_kept : (bs : List Bool) → slice_index_or bs 0 false ≡ true → (k : ℕ) → 3 ≡ 2 + 1 + k → IsTrue (slice_index_or bs k false)
first_is_kept bs on zero e = on
first_is_kept bs on (suc k) e = absurd (omega (arith, e))

pub second_is_kept : (bs : List Bool) → slice_index_or bs 1 false ≡ true → (k : ℕ) → 4 ≡ 2 + 1 + k → IsTrue (slice_index_or bs k false)
second_is_kept bs on zero e = absurd (omega (arith, e))
second_is_kept bs on (suc zero) e = on
second_is_kept bs on (suc (suc k)) e = absurd (omega (arith, e))

-- ---- what is no trimmed refutation

abbrev first_literal : List Step → ℤ
first_literal ss = slice_index_or (clause_of (slice_index_or ss 0 turned_lemma)) 0 (pos 0)

-- without the first step the chain names one that isn't kept
named_is_dropped : (bs : List Bool) → length bs ≡ 3 → with_turned_lemma ≡ trimmed_steps 2 bs with_unnamed_lemma
    → ((j k : ℕ) (s : Step) → IsTrue (slice_index_or bs j false) → slice_get with_unnamed_lemma j ≡ Some s → IsTrue (names_step 2 s k) → IsTrue (slice_index_or bs k false)) → ⊥
named_is_dropped [] len is closed = cc
named_is_dropped (a ∷ []) len is closed = cc
named_is_dropped (a ∷ b ∷ []) len is closed = cc
named_is_dropped (a ∷ b ∷ c ∷ d ∷ bs) len is closed = absurd (omega (arith, len))
named_is_dropped (true ∷ b ∷ c ∷ []) len is closed = let e : pos 3 ≡ negsuc 0 = ap first_literal is in cc
named_is_dropped (false ∷ b ∷ false ∷ []) len is closed = by b is
  where
    by : (b : Bool) → with_turned_lemma ≡ trimmed_steps 2 (false ∷ b ∷ false ∷ []) with_unnamed_lemma → ⊥
    by true e = cc
    by false e = cc
named_is_dropped (false ∷ b ∷ true ∷ []) len is closed = let e = closed 2 0 (chain [] (3 ∷ 1 ∷ 2 ∷ [])) refl refl refl in cc

pub not_dropped : IsTrimmed barred with_unnamed_lemma with_turned_lemma → ⊥
not_dropped h = named_is_dropped h.needed h.as_many h.is h.closed

-- its lemma is none of the old steps
other_lemma : (bs : List Bool) → length bs ≡ 2 → with_turned_lemma ≡ trimmed_steps 2 bs with_one_lemma → ⊥
other_lemma [] len is = cc
other_lemma (a ∷ []) len is = cc
other_lemma (a ∷ b ∷ d ∷ bs) len is = absurd (omega (arith, len))
other_lemma (true ∷ b ∷ []) len is = let e : pos 3 ≡ negsuc 0 = ap first_literal is in cc
other_lemma (false ∷ true ∷ []) len is = cc
other_lemma (false ∷ false ∷ []) len is = cc

pub none_of_the_old : IsTrimmed barred with_one_lemma with_turned_lemma → ⊥
none_of_the_old h = other_lemma h.needed h.as_many h.is

-- the step before the last is named by none
pub second_not_named : IsNamedLater 2 with_unnamed_lemma 1 → ⊥
second_not_named h = by h.later h.after h.step h.is h.names
  where
    by : (later : ℕ) → 1 < later → (s : Step) → slice_get with_unnamed_lemma later ≡ Some s → IsTrue (names_step 2 s 1) → ⊥
    by zero after s is names = absurd (omega (arith, after))
    by (suc zero) after s is names = absurd (omega (arith, after))
    by (suc (suc zero)) after s is names = let e = last_names 3 s 1 is names in cc
    by (suc (suc (suc j))) after s is names = cc
