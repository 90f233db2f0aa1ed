-- Which literals a list has after one is put in or taken out.
use Rattle.std.proofs.Common.{◌≡◌, Bool, true, false, List, ◌∷◌, length, arith, refl, sym, ◌∙◌, subst, ◌&&◌, ◌||◌, not}
use Rattle.std.specs.Prelude.{ℤ}
use Rattle.std.specs.Ordering.{int_eq}
use Rattle.std.specs.List.{IsDistinct}
use Rattle.std.specs.List.Sorted.{IsPermutation}
use Rattle.std.proofs.lemmas.Map.Made.{length-le_from_is_member}
use Rattle.std.proofs.lemmas.Bool.Decides.{Decides-int_eq}
use Rattle.std.proofs.lemmas.Cmp.{int_eq_equiv}
use Rattle.std.proofs.lemmas.List.Sorted.{list_any-IsPermutation}
use Rattle.mono_base.specs.Literal.{has_lit}

-- a literal that is there already
pub has_lit_again : (c : List ℤ) (l m : ℤ) → has_lit c l ≡ true → has_lit c m ≡ (has_lit c m || int_eq m l)
has_lit_again c l m here = by_cases (has_lit c m) (int_eq m l) refl (λ e. subst (λ (k : ℤ). has_lit c k ≡ true) (sym ((Decides-int_eq m l).0 e)) here)
  where
    by_cases : (b e : Bool) → has_lit c m ≡ b → (e ≡ true → has_lit c m ≡ true) → b ≡ (b || e)
    by_cases true e at h = refl
    by_cases false false at h = refl
    by_cases false true at h = sym at ∙ h refl

-- a literal that is not there
pub has_lit_none : (c : List ℤ) (l m : ℤ) → has_lit c l ≡ false → has_lit c m ≡ (has_lit c m && not (int_eq m l))
has_lit_none c l m none = by_cases (has_lit c m) (int_eq m l) refl (λ e. subst (λ (k : ℤ). has_lit c k ≡ false) (sym ((Decides-int_eq m l).0 e)) none)
  where
    by_cases : (b e : Bool) → has_lit c m ≡ b → (e ≡ true → has_lit c m ≡ false) → b ≡ (b && not e)
    by_cases false e at h = refl
    by_cases true false at h = refl
    by_cases true true at h = sym at ∙ h refl

-- a literal that stood there once
pub has_lit_rest : (c rest : List ℤ) (l m : ℤ) → IsPermutation c (l ∷ rest) → has_lit rest l ≡ false → has_lit rest m ≡ (has_lit c m && not (int_eq m l))
has_lit_rest c rest l m moved none = rw (list_any-IsPermutation (int_eq m) c (l ∷ rest) moved) (by_cases (has_lit rest m) (int_eq m l) refl (λ e. subst (λ (k : ℤ). has_lit rest k ≡ false) (sym ((Decides-int_eq m l).0 e)) none))
  where
    by_cases : (b e : Bool) → has_lit rest m ≡ b → (e ≡ true → has_lit rest m ≡ false) → b ≡ ((e || b) && not e)
    by_cases b true at h = sym at ∙ h refl
    by_cases true false at h = refl
    by_cases false false at h = refl

-- lists without repeats that have the same literals are equally long
pub same_length : (c d : List ℤ) → IsDistinct int_eq c → IsDistinct int_eq d → ((l : ℤ) → has_lit c l ≡ has_lit d l) → length c ≡ length d
same_length c d x y same =
    let more = length-le_from_is_member int_eq_equiv c d x (λ l h. sym (same l) ∙ h) in
    let less = length-le_from_is_member int_eq_equiv d c y (λ l h. same l ∙ h) in
    omega (arith, more, less)
