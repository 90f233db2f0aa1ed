-- Tests of the literals of a list.
use Rattle.std.proofs.Common.{◌≡◌, Bool, false, not, ◌&&◌, List, [], ◌∷◌, refl, sym, ap, subst, ◌∙◌, inl, inr, ℤ, filter}
use Rattle.std.specs.Prelude.{IsTrue}
use Rattle.std.specs.Ordering.{int_eq}
use Rattle.std.specs.List.{list_any}
use Rattle.std.proofs.lemmas.Bool.{or_cases, or_left, or_right, or_parts, not-true, both_ways, false_from_ne_true}
use Rattle.std.proofs.lemmas.Bool.Decides.{Decides-int_eq}
use Rattle.std.proofs.lemmas.Map.Views.{any-filter_same}
use Rattle.mono_base.specs.Literal.{has_lit}
use Rattle.mono_base.specs.Partial.{has_two}
use Rattle.mono_base.proofs.Truth.{same_lit, lit_itself}

pub record Found (p : ℤ → Bool) (c : List ℤ) : Type 0 where
  pub lit : ℤ
  pub has : IsTrue (has_lit c lit)
  pub passes : IsTrue (p lit)

-- a literal of the list that passes
pub found : (p : ℤ → Bool) (c : List ℤ) → IsTrue (list_any p c) → Found p c
found p [] h = absurd cc
found p (m ∷ c) h =
    elim (or_cases (p m) (list_any p c) h) [
      | inl e ↦ record { lit = m; has = or_left (int_eq m m) (has_lit c m) (lit_itself m); passes = e }
      | inr e ↦ let f = found p c e in record { lit = f.lit; has = or_right (int_eq f.lit m) (has_lit c f.lit) f.has; passes = f.passes }
    ]

-- where no literal of the list passes
pub none_found : (p : ℤ → Bool) (c : List ℤ) → ((l : ℤ) → IsTrue (has_lit c l) → IsTrue (p l) → ⊥) → list_any p c ≡ false
none_found p c none = false_from_ne_true (list_any p c) (λ h. let f = found p c h in none f.lit f.has f.passes)

-- where no literal of the list passes, a literal of it doesn't
pub fails_each : (p : ℤ → Bool) (c : List ℤ) (l : ℤ) → list_any p c ≡ false → IsTrue (has_lit c l) → p l ≡ false
fails_each p [] l h k = absurd cc
fails_each p (m ∷ c) l h k =
    let a = or_parts (p m) (list_any p c) h in
    elim (or_cases (int_eq l m) (has_lit c l) k) [
      | inl e ↦ subst (λ (x : ℤ). p x ≡ false) (sym (same_lit l m e)) a.0
      | inr e ↦ fails_each p c l a.1 e
    ]

-- what a filter keeps
pub has-filter : (p : ℤ → Bool) (c : List ℤ) (l : ℤ) → has_lit (filter p c) l ≡ (p l && has_lit c l)
has-filter p c l = any-filter_same (int_eq l) p (p l) (λ k e. ap p (sym (same_lit l k e))) c

-- a list whose literals are all the same has no two
pub no_two : (c : List ℤ) (l : ℤ) → ((m : ℤ) → IsTrue (has_lit c m) → m ≡ l) → has_two c ≡ false
no_two [] l h = refl
no_two (x ∷ c) l h = none_found (λ m. not (int_eq x m)) c (λ m k n.
    let same : x ≡ m = h x (or_left (int_eq x x) (has_lit c x) (lit_itself x)) ∙ sym (h m (or_right (int_eq m x) (has_lit c m) k)) in
    both_ways (int_eq x m) (not-true (int_eq x m) n) ((Decides-int_eq x m).1 same))
