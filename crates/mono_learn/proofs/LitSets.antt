-- Lists of literals as sets.
use Rattle.std.proofs.Common.{◌≡◌, ℕ, zero, suc, Bool, true, false, not, List, [], ◌∷◌, ◌++◌, get_or, length, ◌<◌, sym, subst, ◌∙◌, ◌⊎◌, inl, inr, ℤ, arith}
use Rattle.std.specs.Prelude.{IsTrue}
use Rattle.std.specs.Ordering.{int_eq}
use Rattle.std.proofs.lemmas.Bool.{and_parts, and_from, or_cases, or_left, or_right, cases_Bool, not-true, not_from_false}
use Rattle.std.proofs.lemmas.Bool.Decides.{Decides-int_eq}
use Rattle.std.proofs.lemmas.List.Folds.{list_any-append}
use Rattle.mono_base.specs.Literal.{has_lit, without}
use Rattle.mono_base.proofs.Truth.{same_lit, lit_itself}
use Rattle.mono_steps.proofs.Sets.{has-without as without_is}

pub true_false : (b : Bool) → b ≡ true → b ≡ false → ⊥
true_false b t f = let e : true ≡ false = sym t ∙ f in cc

pub lits_differ : (l m : ℤ) → (l ≡ m → ⊥) → int_eq l m ≡ false
lits_differ l m n = elim (cases_Bool (int_eq l m)) [ inl e ↦ absurd (n (same_lit l m e)) | inr e ↦ e ]

-- what two lists joined have
pub has-append_left : (c d : List ℤ) (l : ℤ) → IsTrue (has_lit c l) → IsTrue (has_lit (c ++ d) l)
has-append_left c d l h = list_any-append (int_eq l) c d ∙ or_left (has_lit c l) (has_lit d l) h

pub has-append_right : (c d : List ℤ) (l : ℤ) → IsTrue (has_lit d l) → IsTrue (has_lit (c ++ d) l)
has-append_right c d l h = list_any-append (int_eq l) c d ∙ or_right (has_lit c l) (has_lit d l) h

pub has-append_cases : (c d : List ℤ) (l : ℤ) → IsTrue (has_lit (c ++ d) l) → IsTrue (has_lit c l) ⊎ IsTrue (has_lit d l)
has-append_cases c d l h = or_cases (has_lit c l) (has_lit d l) (sym (list_any-append (int_eq l) c d) ∙ h)

-- what a list has without a literal
pub without_has : (c : List ℤ) (x l : ℤ) → IsTrue (has_lit (without c x) l) → IsTrue (has_lit c l) × (l ≡ x → ⊥)
without_has c x l h =
    let a = and_parts (not (int_eq x l)) (has_lit c l) (sym (without_is c x l) ∙ h) in
    (a.1, λ s. true_false (int_eq x l) ((Decides-int_eq x l).1 (sym s)) (not-true (int_eq x l) a.0))

pub has-without : (c : List ℤ) (x l : ℤ) → (l ≡ x → ⊥) → IsTrue (has_lit c l) → IsTrue (has_lit (without c x) l)
has-without c x l n h = without_is c x l ∙ and_from (not (int_eq x l)) (has_lit c l) (not_from_false (int_eq x l) (lits_differ x l (λ s. n (sym s)))) h

-- what stands in a list, it has
pub has_at : (c : List ℤ) (k : ℕ) (d : ℤ) → k < length c → IsTrue (has_lit c (get_or c k d))
has_at [] k d lt = absurd (omega arith)
has_at (m ∷ c) zero d lt = or_left (int_eq m m) (has_lit c m) (lit_itself m)
has_at (m ∷ c) (suc k) d lt = or_right (int_eq (get_or c k d) m) (has_lit c (get_or c k d)) (has_at c k d (omega arith))

-- what was read of a list, it has
pub has_read : (c : List ℤ) (k : ℕ) (l : ℤ) → k < length c → l ≡ get_or c k l → IsTrue (has_lit c l)
has_read c k l lt e = subst (λ (m : ℤ). IsTrue (has_lit c m)) (sym e) (has_at c k l lt)

pub same_if : (l x : ℤ) → ((l ≡ x → ⊥) → ⊥) → l ≡ x
same_if l x nn = elim (cases_Bool (int_eq l x)) [ inl e ↦ same_lit l x e | inr e ↦ absurd (nn (λ s. true_false (int_eq l x) ((Decides-int_eq l x).1 s) e)) ]

-- one literal more at the end
pub has_one : (e : List ℤ) (l : ℤ) → IsTrue (has_lit (e ++ l ∷ []) l)
has_one e l = has-append_right e (l ∷ []) l (or_left (int_eq l l) (has_lit [] l) (lit_itself l))

pub one_cases : (e : List ℤ) (l m : ℤ) → IsTrue (has_lit (e ++ l ∷ []) m) → IsTrue (has_lit e m) ⊎ (m ≡ l)
one_cases e l m h = elim (has-append_cases e (l ∷ []) m h) [ inl a ↦ inl a | inr b ↦ elim (or_cases (int_eq m l) (has_lit [] m) b) [ inl s ↦ inr (same_lit m l s) | inr z ↦ absurd cc ] ]
