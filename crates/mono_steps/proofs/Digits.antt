-- The digits of a clause tell its literals, and its code tells the digits.
use Rattle.std.proofs.Common.{◌≡◌, ◌<◌, ◌≤◌, ◌+◌, ◌*◌, ◌^◌, ◌/◌, ℕ, zero, suc, Bool, true, false, ◌&&◌, ◌==◌, List, [], ◌∷◌, length, refl, sym, ap, ◌∙◌, inl, inr, ℤ, arith}
use Rattle.std.specs.Prelude.{IsTrue, pos, negsuc, neg_ℤ, nat_le, if◌then◌else◌}
use Rattle.std.proofs.Math.Nat.{pow-suc}
use Rattle.std.proofs.lemmas.Bool.{and_parts, leb-true, cases_eq, false_from_ne_true, both_ways}
use Rattle.std.proofs.lemmas.Nat.{div-mul-add, mul-add-lt}
use Rattle.mono_base.specs.Literal.{has_lit, var_of, within, has_opposites}
use Rattle.mono_base.proofs.Truth.{at_each, from_each}
use Rattle.mono_problem.specs.Instance.{Instance}
use Rattle.mono_steps.specs.ChainSteps.{names_vars}
use Rattle.mono_steps.specs.Codes.{digit, code}
use Rattle.mono_steps.proofs.LitTests.{fails_each}

abbrev digit_of : Bool → Bool → ℕ
digit_of a b = if a then 1 else if b then 2 else 0

below_3 : (a b : Bool) → digit_of a b < 3
below_3 true b = omega arith
below_3 false true = omega arith
below_3 false false = omega arith

digit_below : (c : List ℤ) (x : ℕ) → digit c x < 3
digit_below c x = below_3 (has_lit c (pos x)) (has_lit c (neg_ℤ (pos x)))

pub code_below : (vars : ℕ) (c : List ℤ) → code vars c < 3 ^ vars
code_below zero c = omega arith
code_below (suc v) c = omega (arith, pow-suc 3 v, mul-add-lt (digit c (suc v)) (3 ^ v) (code v c) 3 (digit_below c (suc v)) (code_below v c))

-- the first digit and the rest of a number are one and no other
same_parts : (a b r s w : ℕ) → r < w → s < w → a * w + r ≡ b * w + s → (a ≡ b) × (r ≡ s)
same_parts a b r s w lr ls e =
    let first : a ≡ b = sym (div-mul-add a w r lr) ∙ ap (λ (n : ℕ). n / w) e ∙ div-mul-add b w s ls in
    let same : a * w ≡ b * w = ap (λ (n : ℕ). n * w) first in
    (first, omega (arith, e, same))

same_digits : (vars : ℕ) (c d : List ℤ) → code vars c ≡ code vars d → (x : ℕ) → 1 ≤ x → x ≤ vars → digit c x ≡ digit d x
same_digits zero c d e x low high = absurd (omega arith)
same_digits (suc v) c d e x low high =
    let k = same_parts (digit c (suc v)) (digit d (suc v)) (code v c) (code v d) (3 ^ v) (code_below v c) (code_below v d) e in
    elim (cases_eq x (suc v)) [
      | inl here ↦ ap (digit c) here ∙ k.0 ∙ ap (digit d) (sym here)
      | inr other ↦ same_digits v c d k.1 x low (omega (arith, other, high))
    ]

-- a digit tells whether the clause has the variable, and its negation
first_told : (a b a' b' : Bool) → digit_of a b ≡ digit_of a' b' → IsTrue a → IsTrue a'
first_told true b true b' e h = refl
first_told true b false true e h = absurd (omega arith)
first_told true b false false e h = absurd (omega arith)
first_told false b a' b' e h = absurd cc

second_told : (a b a' b' : Bool) → a ≡ false → digit_of a b ≡ digit_of a' b' → IsTrue b → IsTrue b'
second_told true b a' b' o e h = absurd cc
second_told false true a' true o e h = refl
second_told false true true false o e h = absurd (omega arith)
second_told false true false false o e h = absurd (omega arith)
second_told false false a' b' o e h = absurd cc

-- the clause's literals are among those of each clause with the same code
told : (vars : ℕ) (c d : List ℤ) (l : ℤ) → has_opposites c ≡ false → code vars c ≡ code vars d → IsTrue (nat_le 1 (var_of l) && nat_le (var_of l) vars) → IsTrue (has_lit c l) → IsTrue (has_lit d l)
told vars c d (pos zero) one e r h = absurd cc
told vars c d (pos (suc n)) one e r h =
    let high : suc n ≤ vars = leb-true (suc n) vars (and_parts (nat_le 1 (suc n)) (nat_le (suc n) vars) r).1 in
    first_told (has_lit c (pos (suc n))) (has_lit c (negsuc n)) (has_lit d (pos (suc n))) (has_lit d (negsuc n)) (same_digits vars c d e (suc n) (omega arith) high) h
told vars c d (negsuc n) one e r h =
    let high : suc n ≤ vars = leb-true (suc n) vars (and_parts (nat_le 1 (suc n)) (nat_le (suc n) vars) r).1 in
    let off : has_lit c (pos (suc n)) ≡ false = false_from_ne_true (has_lit c (pos (suc n))) (λ k. both_ways (has_lit c (negsuc n)) (fails_each (λ m. has_lit c (neg_ℤ m)) c (pos (suc n)) one k) h) in
    second_told (has_lit c (pos (suc n))) (has_lit c (negsuc n)) (has_lit d (pos (suc n))) (has_lit d (negsuc n)) off (same_digits vars c d e (suc n) (omega arith) high) h

pub same_code : (p : Instance) (c d : List ℤ) → IsTrue (names_vars p c) → has_opposites c ≡ false → code p.vars c ≡ code p.vars d → IsTrue (within c d)
same_code p c d over one e = from_each (has_lit d) c (λ l h. told p.vars c d l one e (at_each (λ m. nat_le 1 (var_of m) && nat_le (var_of m) p.vars) c over l h) h)

-- only the empty clause has the code 0
code_of_empty : (vars : ℕ) → code vars [] ≡ 0
code_of_empty zero = refl
code_of_empty (suc v) = omega (arith, code_of_empty v)

within_empty : (c : List ℤ) → IsTrue (within c []) → IsTrue (length c == 0)
within_empty [] h = refl
within_empty (l ∷ c) h = absurd cc

pub code_zero : (p : Instance) (c : List ℤ) → IsTrue (names_vars p c) → has_opposites c ≡ false → code p.vars c ≡ 0 → IsTrue (length c == 0)
code_zero p c over one e = within_empty c (same_code p c [] over one (e ∙ sym (code_of_empty p.vars)))
