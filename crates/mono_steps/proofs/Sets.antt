-- Lists of literals as sets.
use Rattle.std.proofs.Common.{◌≡◌, ℕ, ◌+◌, ◌<◌, Bool, true, false, not, ◌&&◌, ◌||◌, List, [], ◌∷◌, ◌++◌, take, get_or, length, refl, sym, ap, subst, ◌∙◌, inl, inr, ℤ, arith}
use Rattle.std.specs.Prelude.{IsTrue, ◌==◌}
use Rattle.std.specs.Ordering.{int_eq}
use Rattle.std.specs.List.{list_all}
use Rattle.std.proofs.lemmas.Bool.{and_parts, or_cases, or_left, ne_eqb}
use Rattle.std.proofs.lemmas.Bool.Decides.{Decides-int_eq}
use Rattle.std.proofs.lemmas.List.{take_more}
use Rattle.std.proofs.lemmas.List.Folds.{list_any-append}
use Rattle.std.proofs.lemmas.Map.Views.{any-filter_same}
use Rattle.mono_base.specs.Literal.{has_lit, within, without}
use Rattle.mono_base.proofs.Truth.{same_lit, lit_itself, from_each}

pub int_eq-sym : (l m : ℤ) → int_eq l m ≡ int_eq m l
int_eq-sym l m = both (int_eq l m) (int_eq m l) (λ e. (Decides-int_eq m l).1 (sym (same_lit l m e))) (λ e. (Decides-int_eq l m).1 (sym (same_lit m l e)))
  where
    both : (b d : Bool) → (b ≡ true → d ≡ true) → (d ≡ true → b ≡ true) → b ≡ d
    both true d f g = sym (f refl)
    both false true f g = g refl
    both false false f g = refl

pub has-append : (c d : List ℤ) (l : ℤ) → has_lit (c ++ d) l ≡ (has_lit c l || has_lit d l)
has-append c d l = list_any-append (int_eq l) c d

-- what a list has without a literal
pub has-without : (c : List ℤ) (x l : ℤ) → has_lit (without c x) l ≡ (not (int_eq x l) && has_lit c l)
has-without c x l = any-filter_same (int_eq l) (λ m. not (int_eq x m)) (not (int_eq x l)) (λ k e. subst (λ (m : ℤ). not (int_eq x m) ≡ not (int_eq x l)) (same_lit l k e) refl) c

pub taken_out : (c : List ℤ) (x l : ℤ) → (has_lit c l && not (int_eq l x)) ≡ has_lit (without c x) l
taken_out c x l = swapped (has_lit c l) (int_eq l x) (int_eq x l) (int_eq-sym l x) ∙ sym (has-without c x l)
  where
    swapped : (h d e : Bool) → d ≡ e → (h && not d) ≡ (not e && h)
    swapped true true e s = subst (λ (b : Bool). false ≡ (not b && true)) s refl
    swapped true false e s = subst (λ (b : Bool). true ≡ (not b && true)) s refl
    swapped false d true s = refl
    swapped false d false s = refl

-- one more literal of a list
pub has-take_more : (c : List ℤ) (i : ℕ) (x l : ℤ) → i < length c → get_or c i x ≡ x → has_lit (take (i + 1) c) l ≡ (has_lit (take i c) l || (int_eq l x || false))
has-take_more c i x l low at =
    ap (λ (d : List ℤ). has_lit d l) (take_more c i x low) ∙ has-append (take i c) (get_or c i x ∷ []) l
    ∙ ap (λ (m : ℤ). has_lit (take i c) l || (int_eq l m || false)) at

-- what is left of a list without the literals of another one is nothing, exactly where the first is within the second
pub none_left : (s old c : List ℤ) → ((l : ℤ) → has_lit s l ≡ (has_lit old l && not (has_lit c l))) → (length s == 0) ≡ within old c
none_left [] old c h = sym (from_each (has_lit c) old (λ l k. inside (has_lit old l) (has_lit c l) k (h l)))
  where
    inside : (b d : Bool) → IsTrue b → false ≡ (b && not d) → IsTrue d
    inside true true k e = refl
    inside true false k e = e
    inside false d k e = absurd cc
none_left (m ∷ s) old c h = ne_eqb (length (m ∷ s)) 0 (λ e. omega arith) ∙ sym (outside old (has_lit old) (λ l e. e) (and_both (has_lit old m) (has_lit c m) (sym (or_left (int_eq m m) (has_lit s m) (lit_itself m)) ∙ h m)))
  where
    and_both : (b d : Bool) → true ≡ (b && not d) → IsTrue b × (d ≡ false)
    and_both true false e = (refl, refl)
    and_both true true e = absurd cc
    and_both false d e = absurd cc

    outside : (ls : List ℤ) (had : ℤ → Bool) → ((l : ℤ) → IsTrue (had l) → IsTrue (has_lit ls l)) → IsTrue (had m) × (has_lit c m ≡ false) → list_all (has_lit c) ls ≡ false
    outside ls had sub (a, b) = fails ls (sub m a)
      where
        fails : (ks : List ℤ) → IsTrue (has_lit ks m) → list_all (has_lit c) ks ≡ false
        fails [] k = absurd cc
        fails (x ∷ ks) k = by_head (int_eq m x) refl k (fails ks)
          where
            by_head : (e : Bool) → int_eq m x ≡ e → IsTrue (e || has_lit ks m) → (IsTrue (has_lit ks m) → list_all (has_lit c) ks ≡ false) → (has_lit c x && list_all (has_lit c) ks) ≡ false
            by_head true e k rest = ap (λ (d : Bool). d && list_all (has_lit c) ks) (subst (λ (y : ℤ). has_lit c y ≡ false) (same_lit m x e) b)
            by_head false e k rest = left (has_lit c x) (rest k)
              where
                left : (d : Bool) → list_all (has_lit c) ks ≡ false → (d && list_all (has_lit c) ks) ≡ false
                left true r = r
                left false r = refl

pub within-has : (e c : List ℤ) (l : ℤ) → IsTrue (within e c) → IsTrue (has_lit e l) → IsTrue (has_lit c l)
within-has [] c l w h = absurd cc
within-has (m ∷ ms) c l w h =
    let a = and_parts (has_lit c m) (within ms c) w in
    elim (or_cases _ (has_lit ms l) h) [
      | inl e ↦ subst (λ (k : ℤ). IsTrue (has_lit c k)) (sym (same_lit l m e)) a.0
      | inr e ↦ within-has ms c l a.1 e
    ]

-- two lists with the same literals are within the same lists
pub within-same : (s e c : List ℤ) → ((l : ℤ) → has_lit s l ≡ has_lit e l) → within s c ≡ within e c
within-same s e c is = both (within s c) (within e c) (λ w. from_each (has_lit c) e (λ l k. within-has s c l w (is l ∙ k))) (λ w. from_each (has_lit c) s (λ l k. within-has e c l w (sym (is l) ∙ k)))
  where
    both : (b d : Bool) → (b ≡ true → d ≡ true) → (d ≡ true → b ≡ true) → b ≡ d
    both true d f g = sym (f refl)
    both false true f g = g refl
    both false false f g = refl
