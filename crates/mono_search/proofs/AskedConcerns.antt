-- A theory that doesn't list its variables is asked of each.
use Rattle.std.proofs.Common.{◌≡◌, ℕ, ◌+◌, ◌<◌, ◌≤◌, true, false, cond, List, [], ◌∷◌, ◌++◌, get_or, set, length, refl, sym, ap, subst, ◌∙◌, inl, inr, arith}
use Rattle.std.proofs.lemmas.Bool.{cases_eq}
use Rattle.std.proofs.lemmas.List.{append-nil, length-set, get_or-set_same, get_or-set_other}
use Rattle.mono_theory.specs.Theories.{Facts, concerns_of}
use Rattle.mono_search.specs.TheoryLists.{AddsTheory}

-- of the variables up to k those that concern the theory have its place too, and the others have what they had
pub record IsAskedTo (k : ℕ) (f : Facts) (place : ℕ) (old now : List (List ℕ)) : Type 0 where
  pub keys : length now ≡ length old
  pub asked : (v : ℕ) → 1 ≤ v → v ≤ k → get_or now v [] ≡ get_or old v [] ++ cond (concerns_of f.graph f.atoms v) (place ∷ []) []
  pub others : (v : ℕ) → k < v → get_or now v [] ≡ get_or old v []

pub asked_none : (f : Facts) (place : ℕ) (table : List (List ℕ)) → IsAskedTo 0 f place table table
asked_none f place table = record { keys = refl; asked = λ v low high. absurd (omega (arith, low, high)); others = λ v above. refl }

pub asked_yes : (k : ℕ) (f : Facts) (place : ℕ) (old now : List (List ℕ)) → k + 1 < length now → concerns_of f.graph f.atoms (k + 1) ≡ true → IsAskedTo k f place old now
    → IsAskedTo (k + 1) f place old (set now (k + 1) (get_or now (k + 1) [] ++ place ∷ []))
asked_yes k f place old now fits concerned a = record {
  keys = length-set now (k + 1) (get_or now (k + 1) [] ++ place ∷ []) ∙ a.keys;
  asked = λ v low high. elim (cases_eq (k + 1) v) [
    | inl e ↦ subst (λ (w : ℕ). get_or (set now (k + 1) (get_or now (k + 1) [] ++ place ∷ [])) w [] ≡ get_or old w [] ++ cond (concerns_of f.graph f.atoms w) (place ∷ []) []) e here
    | inr ne ↦ get_or-set_other now (k + 1) v (get_or now (k + 1) [] ++ place ∷ []) [] (λ e. ne (sym e)) ∙ a.asked v low (omega (arith, high, ne))
  ];
  others = λ v above. get_or-set_other now (k + 1) v (get_or now (k + 1) [] ++ place ∷ []) [] (λ e. omega (arith, e, above)) ∙ a.others v (omega (arith, above));
}
  where
    here : get_or (set now (k + 1) (get_or now (k + 1) [] ++ place ∷ [])) (k + 1) [] ≡ get_or old (k + 1) [] ++ cond (concerns_of f.graph f.atoms (k + 1)) (place ∷ []) []
    here =
        get_or-set_same now (k + 1) (get_or now (k + 1) [] ++ place ∷ []) [] fits
        ∙ ap (λ (ps : List ℕ). ps ++ place ∷ []) (a.others (k + 1) (omega arith))
        ∙ sym (ap (λ b. get_or old (k + 1) [] ++ cond b (place ∷ []) []) concerned)

pub asked_no : (k : ℕ) (f : Facts) (place : ℕ) (old now : List (List ℕ)) → concerns_of f.graph f.atoms (k + 1) ≡ false → IsAskedTo k f place old now → IsAskedTo (k + 1) f place old now
asked_no k f place old now apart a = record {
  keys = a.keys;
  asked = λ v low high. elim (cases_eq (k + 1) v) [
    | inl e ↦ subst (λ (w : ℕ). get_or now w [] ≡ get_or old w [] ++ cond (concerns_of f.graph f.atoms w) (place ∷ []) []) e here
    | inr ne ↦ a.asked v low (omega (arith, high, ne))
  ];
  others = λ v above. a.others v (omega (arith, above));
}
  where
    here : get_or now (k + 1) [] ≡ get_or old (k + 1) [] ++ cond (concerns_of f.graph f.atoms (k + 1)) (place ∷ []) []
    here = a.others (k + 1) (omega arith) ∙ sym (ap (λ b. get_or old (k + 1) [] ++ cond b (place ∷ []) []) apart ∙ append-nil (get_or old (k + 1) []))

pub asked_all : (vars k : ℕ) (f : Facts) (place : ℕ) (old now : List (List ℕ)) → vars ≤ k → IsAskedTo k f place old now → AddsTheory vars f place old now
asked_all vars k f place old now whole a = record { keys = a.keys; at = λ v low high. a.asked v low (omega (arith, high, whole)) }
