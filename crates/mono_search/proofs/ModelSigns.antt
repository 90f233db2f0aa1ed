-- The literals that are true in a model, one more at a time.
use Rattle.std.proofs.Common.{◌≡◌, ◌≤◌, ◌+◌, ◌∙◌, ℕ, zero, suc, ℤ, pos, List, [], ◌∷◌, ◌++◌, Bool, true, false, refl, sym, subst, arith, get_or, length-append, inl, inr, ap}
use Rattle.std.proofs.lemmas.Bool.{cases_lt}
use Rattle.std.proofs.lemmas.List.{get_or_append_left, get_or_push}
use Rattle.mono_base.specs.Literal.{IsLitWithin}
use Rattle.mono_steps.specs.Switching.{literal_of}
use Rattle.mono_search.specs.Signs.{AreSigns}

literal_within : (n v : ℕ) (sign : Bool) → 1 ≤ v → v ≤ n → IsLitWithin n (literal_of sign v)
literal_within n zero sign low high = absurd (omega (arith, low))
literal_within n (suc k) true low high = (omega arith, high)
literal_within n (suc k) false low high = (omega arith, high)

pub is_within : (n v : ℕ) (sign : Bool) (l : ℤ) → l ≡ literal_of sign v → 1 ≤ v → v ≤ n → IsLitWithin n l
is_within n v sign l e low high = subst (λ (m : ℤ). IsLitWithin n m) (sym e) (literal_within n v sign low high)

pub signs_first : (model : List Bool) → AreSigns model 0 []
signs_first model = record { count = refl; each = λ k low. absurd (omega (arith, low)) }

pub signs_more : (model : List Bool) (n : ℕ) (l : ℤ) (lits : List ℤ) → l ≡ literal_of (get_or model n false) (n + 1) → AreSigns model n lits → AreSigns model (n + 1) (lits ++ l ∷ [])
signs_more model n l lits is h = record {
  count = omega (arith, length-append lits (l ∷ []), h.count);
  each = λ k low. elim (cases_lt k n) [
    | inl old ↦ get_or_append_left lits (l ∷ []) (pos 0) k (omega (arith, old, h.count)) ∙ h.each k old
    | inr past ↦
        let last : n ≡ k = omega (arith, low, past) in
        get_or_push lits l (pos 0) k (h.count ∙ last) ∙ (is ∙ ap (λ (j : ℕ). literal_of (get_or model j false) (j + 1)) last)
  ];
}
