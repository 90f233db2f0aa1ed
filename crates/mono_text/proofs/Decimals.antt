-- A number that is written in decimal digits is read as that number.
use Rattle.std.proofs.Common.{◌≡◌, ℕ, suc, ◌+◌, ◌-◌, ◌*◌, ◌%◌, ◌^◌, ◌<◌, ◌≤◌, true, false, List, [], ◌∷◌, ◌++◌, length, refl, ap, ◌∙◌, arith, decimal, Some, Ok, ltb, le-leb, ℤ, pos, negsuc, neg_ℤ, nat_abs, eqb, eq-eqb, length-append, option_map, map}
use Rattle.std.specs.Prelude.{FitsSigned}
use Rattle.std.specs.Int.{w64}
use Rattle.std.specs.Fmt.{signed_decimal}
use Rattle.std.specs.List.{list_all}
use Rattle.std.proofs.lemmas.Fmt.{decimal_by_steps}
use Rattle.std.proofs.lemmas.List.Sums.{fold-append}
use Rattle.std.proofs.lemmas.Bool.Decides.{nat_tests}
use Rattle.std.specs.Char.{is_ascii_digit}
use Rattle.mono_text.specs.Numbers.{digits_value, natural, signed, within, signed_within}
use Rattle.mono_text.specs.Fields.{fields_from, fields_of, onto}
use Rattle.mono_text.proofs.Spaced.{IsWord, IsToken}

-- every byte is a digit
abbrev pub AreDigits : List ℕ → Type 0
AreDigits [] = Unit {0}
AreDigits (b ∷ bs) = (48 ≤ b) × (b ≤ 57) × AreDigits bs

digits-append : (ds : List ℕ) (b : ℕ) → AreDigits ds → 48 ≤ b → b ≤ 57 → AreDigits (ds ++ b ∷ [])
digits-append [] b h low high = (low, high, tt)
digits-append (d ∷ ds) b h low high = (h.0, h.1, digits-append ds b h.2 low high)

-- some digits that stand for n
pub record IsDecimal (n : ℕ) (ds : List ℕ) : Type 0 where
  pub digits : AreDigits ds
  pub some : 0 < length ds
  pub value : digits_value ds ≡ n

pub decimal_is : (n : ℕ) → n < 2 ^ 64 → IsDecimal n (decimal n)
decimal_is = decimal_by_steps IsDecimal
    (λ n small. record { digits = (omega arith, omega arith, tt); some = omega arith; value = omega arith })
    (λ n ds big h. record {
      digits = digits-append ds (48 + n % 10) h.digits (omega arith) (omega arith);
      some = simp length-append (omega (arith, h.some));
      value = fold-append (λ n b. 10 * n + (b - 48)) 0 ds ((48 + n % 10) ∷ []) ∙ omega (arith, h.value);
    })

all_digits : (ds : List ℕ) → AreDigits ds → list_all is_ascii_digit ds ≡ true
all_digits [] h = refl
all_digits (b ∷ bs) h =
    let low = le-leb 48 b h.0 in
    let high = le-leb b 57 h.1 in
    rw (low, high) (all_digits bs h.2)

pub word_digits : (ds : List ℕ) → AreDigits ds → IsWord ds
word_digits [] h = tt
word_digits (b ∷ bs) h = (grind (arith, nat_tests), grind (arith, nat_tests), word_digits bs h.2)

natural-digits : (n : ℕ) (ds : List ℕ) → IsDecimal n ds → natural ds ≡ Some n
natural-digits n [] h = absurd (omega (arith, h.some))
natural-digits n (b ∷ bs) h = rw (all_digits (b ∷ bs) h.digits) (ap Some h.value)

pub natural-decimal : (n : ℕ) → n < 2 ^ 64 → natural (decimal n) ≡ Some n
natural-decimal n h = natural-digits n (decimal n) (decimal_is n h)

token_digits : (n : ℕ) (ds : List ℕ) → IsDecimal n ds → IsToken ds
token_digits n [] h = absurd (omega (arith, h.some))
token_digits n (b ∷ bs) h = word_digits (b ∷ bs) h.digits

pub token_decimal : (n : ℕ) → n < 2 ^ 64 → IsToken (decimal n)
token_decimal n h = token_digits n (decimal n) (decimal_is n h)

-- ---- signed numbers

signed-digits : (n : ℕ) (ds : List ℕ) → IsDecimal n ds → signed ds ≡ Some (pos n)
signed-digits n [] h = absurd (omega (arith, h.some))
signed-digits n (b ∷ bs) h =
    let no_minus : eqb b 45 ≡ false = grind (arith, nat_tests, h.digits.0) in
    rw no_minus (ap (option_map pos) (natural-digits n (b ∷ bs) h))

pub nat_abs-below : (z : ℤ) → FitsSigned w64 z → nat_abs z < 2 ^ 64
nat_abs-below (pos n) h = omega (arith, h)
nat_abs-below (negsuc n) h = omega (arith, h)

pub signed-decimal : (z : ℤ) → nat_abs z < 2 ^ 64 → signed (signed_decimal z) ≡ Some z
signed-decimal (pos n) h = signed-digits n (decimal n) (decimal_is n (omega (arith, h)))
signed-decimal (negsuc n) h = ap (option_map (λ n. neg_ℤ (pos n))) (natural-decimal (suc n) (omega (arith, h)))

pub signed_within-decimal : (limit : ℕ) (z : ℤ) → nat_abs z ≤ limit → nat_abs z < 2 ^ 64 → signed_within limit (signed (signed_decimal z)) ≡ Ok z
signed_within-decimal limit z low h =
    let test : ltb limit (nat_abs z) ≡ false = grind (arith, nat_tests) in
    ap (signed_within limit) (signed-decimal z h) ∙ rw test refl

pub token_signed : (z : ℤ) → nat_abs z < 2 ^ 64 → IsToken (signed_decimal z)
token_signed (pos n) h = token_decimal n (omega (arith, h))
token_signed (negsuc n) h = (refl, refl, word_digits (decimal (suc n)) (decimal_is (suc n) (omega (arith, h))).digits)

-- ---- fields

-- one number for each limit, and up to it
abbrev pub AreWithin : List ℕ → List ℕ → Type 0
AreWithin [] [] = Unit {0}
AreWithin [] (n ∷ ns) = ⊥
AreWithin (l ∷ ls) [] = ⊥
AreWithin (l ∷ ls) (n ∷ ns) = (n ≤ l) × (n < 2 ^ 64) × AreWithin ls ns

within-decimal : (limit n : ℕ) → n ≤ limit → n < 2 ^ 64 → within limit (natural (decimal n)) ≡ Ok n
within-decimal limit n low h =
    let test : ltb limit n ≡ false = grind (arith, nat_tests) in
    ap (within limit) (natural-decimal n h) ∙ rw test refl

fields_from-decimal : (k : ℕ) (limits ns : List ℕ) → AreWithin limits ns → fields_from k limits (map decimal ns) ≡ Ok ns
fields_from-decimal k [] [] h = refl
fields_from-decimal k [] (n ∷ ns) h = absurd h
fields_from-decimal k (l ∷ ls) [] h = absurd h
fields_from-decimal k (l ∷ ls) (n ∷ ns) h =
    ap (λ r. onto k r (fields_from (k + 1) ls (map decimal ns))) (within-decimal l n h.0 h.1)
    ∙ ap (onto k (Ok n)) (fields_from-decimal (k + 1) ls ns h.2)

length-within : (limits ns : List ℕ) → AreWithin limits ns → length (map decimal ns) ≡ length limits
length-within [] [] h = refl
length-within [] (n ∷ ns) h = absurd h
length-within (l ∷ ls) [] h = absurd h
length-within (l ∷ ls) (n ∷ ns) h = ap suc (length-within ls ns h.2)

-- numbers within their limits, as they are written, are read as fields
pub fields_of-decimal : (limits ns : List ℕ) → AreWithin limits ns → fields_of limits (map decimal ns) ≡ Ok ns
fields_of-decimal limits ns h =
    let counted = eq-eqb (length (map decimal ns)) (length limits) (length-within limits ns h) in
    rw counted (fields_from-decimal 0 limits ns h)
