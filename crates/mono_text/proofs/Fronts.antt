-- A number at the front of a line.
use Rattle.std.proofs.Common.{◌≡◌, ℕ, zero, suc, ◌+◌, ◌-◌, ◌<◌, ◌≤◌, Bool, true, false, List, [], ◌∷◌, length, take, drop, get_or, Option, Some, None, neg_ℤ, pos, ltb, option_map, Ok, Err, refl, ap, sym, arith, cond, inl, inr, ◌⊎◌}
use Rattle.std.specs.List.{list_all, position_or_len, before_first, after_first}
use Rattle.std.specs.Char.{is_ascii_digit}
use Rattle.std.proofs.Math.Numerals.{one-add}
use Rattle.std.proofs.lemmas.Bool.Decides.{nat_tests}
use Rattle.std.proofs.lemmas.Bool.{cases_Bool}
use Rattle.std.proofs.lemmas.Grind.{common_steps}
use Rattle.std.proofs.lemmas.List.Sums.{position_or_len_is}
use Rattle.memchr.specs.Find.{IsFirstByte, is_byte}
use Rattle.mono_text.specs.Text.{is_blank, is_line_feed}
use Rattle.mono_text.specs.declared.number.NumberRefusal.TheVariants as refusal
use Rattle.mono_text.specs.Numbers.{digits_value, natural, signed, within, signed_within, as_positive, as_negative}

pub digit-not-blank : (b : ℕ) → is_ascii_digit b ≡ true → is_blank b ≡ false
digit-not-blank b h = grind (arith, nat_tests)

-- a byte that passes p stands at the place n, or the line ends there
abbrev pub EndsAt : (ℕ → Bool) → List ℕ → ℕ → Type 0
EndsAt p s n = (n ≡ length s) ⊎ (p (get_or s n 0) ≡ true)

-- no digit passes p
abbrev pub NoDigit : (ℕ → Bool) → Type 0
NoDigit p = (b : ℕ) → is_ascii_digit b ≡ true → p b ≡ false

pub first-front : (p : ℕ → Bool) → NoDigit p → (s : List ℕ) (n : ℕ) → n ≤ length s → list_all is_ascii_digit (take n s) ≡ true → EndsAt p s n → position_or_len p s ≡ n
first-front p free [] n few all ends = omega arith
first-front p free (b ∷ bs) zero few all (inl e) = absurd (omega (arith, e))
first-front p free (b ∷ bs) zero few all (inr e) = rw e refl
first-front p free (b ∷ bs) (suc n) few all ends =
    elim (cases_Bool (is_ascii_digit b)) [
      | inl d ↦ rw (free b d, one-add) (ap suc (first-front p free bs n (omega arith) (rw d at all) (behind b bs n ends)))
      | inr d ↦ absurd (let none = rw d at all in cc)
    ] where
      behind : (b : ℕ) (bs : List ℕ) (n : ℕ) → EndsAt p (b ∷ bs) (suc n) → EndsAt p bs n
      behind b bs n (inl e) = inl (omega (arith, e))
      behind b bs n (inr e) = inr e

natural-all : (s : List ℕ) → 0 < length s → list_all is_ascii_digit s ≡ true → natural s ≡ Some (digits_value s)
natural-all [] some all = absurd (omega arith)
natural-all (b ∷ bs) some all = rw all refl

pub natural-front : (p : ℕ → Bool) → NoDigit p → (s : List ℕ) (n : ℕ) → 0 < n → n ≤ length s → list_all is_ascii_digit (take n s) ≡ true → EndsAt p s n → natural (before_first p s) ≡ Some (digits_value (take n s))
natural-front p free s n some few all ends =
    let at = first-front p free s n few all ends in
    let len : 0 < length (take n s) = grind (arith, common_steps) in
    rw at (natural-all (take n s) len all)

pub rest-front : (s : List ℕ) (n : ℕ) → n ≤ length s → list_all is_ascii_digit (take n s) ≡ true → EndsAt is_blank s n → after_first is_blank s ≡ drop (n + 1) s
rest-front s n few all ends = let at = first-front is_blank digit-not-blank s n few all ends in rw at refl

-- ---- signs

negative_within : (limit : ℕ) (o : Option ℕ) → signed_within limit (option_map (λ n. neg_ℤ (pos n)) o) ≡ as_negative (within limit o)
negative_within limit None = refl
negative_within limit (Some zero) = elim (ltb limit 0) as (λ b. cond b (Err refusal.TooLarge) (Ok (neg_ℤ (pos 0))) ≡ as_negative (cond b (Err refusal.TooLarge) (Ok 0))) [ true ↦ refl | false ↦ refl ]
negative_within limit (Some (suc n)) = elim (ltb limit (suc n)) as (λ b. cond b (Err refusal.TooLarge) (Ok (neg_ℤ (pos (suc n)))) ≡ as_negative (cond b (Err refusal.TooLarge) (Ok (suc n)))) [ true ↦ refl | false ↦ refl ]

positive_within : (limit : ℕ) (o : Option ℕ) → signed_within limit (option_map pos o) ≡ as_positive (within limit o)
positive_within limit None = refl
positive_within limit (Some n) = elim (ltb limit n) as (λ b. cond b (Err refusal.TooLarge) (Ok (pos n)) ≡ as_positive (cond b (Err refusal.TooLarge) (Ok n))) [ true ↦ refl | false ↦ refl ]

-- a line that begins with a minus
signed-minus : (p : ℕ → Bool) → p 45 ≡ false → (limit : ℕ) (bs : List ℕ) → signed_within limit (signed (before_first p (45 ∷ bs))) ≡ as_negative (within limit (natural (before_first p bs)))
signed-minus p free limit bs =
    let start : before_first p (45 ∷ bs) ≡ 45 ∷ before_first p bs = rw (free, one-add) refl in
    rw start (negative_within limit (natural (before_first p bs)))

pub signed-minus_at : (p : ℕ → Bool) → p 45 ≡ false → (limit : ℕ) (s : List ℕ) → 1 ≤ length s → get_or s 0 0 ≡ 45 → signed_within limit (signed (before_first p s)) ≡ as_negative (within limit (natural (before_first p (take (length s - 1) (drop 1 s)))))
signed-minus_at p free limit [] some is = absurd (omega arith)
signed-minus_at p free limit (b ∷ bs) some is =
    let all : take (length (b ∷ bs) - 1) bs ≡ bs = grind (arith, common_steps) in
    rw (is, all) (signed-minus p free limit bs)

-- ---- the end of a line

not-true : (b : Bool) → (b ≡ true → ⊥) → b ≡ false
not-true true h = absurd (h refl)
not-true false h = refl

pub line_end-some : (s : List ℕ) (k : ℕ) → IsFirstByte (is_byte 10) s (Some k) → k ≡ position_or_len is_line_feed s
line_end-some s k h = sym (position_or_len_is is_line_feed s k 0 (omega (arith, h.0.high)) (λ i low. not-true (is_line_feed (get_or s i 0)) (h.0.before i (omega arith) low)) (λ within. h.1))

pub line_end-none : (s : List ℕ) → IsFirstByte (is_byte 10) s None → length s ≡ position_or_len is_line_feed s
line_end-none s h = sym (position_or_len_is is_line_feed s (length s) 0 (omega arith) (λ i low. not-true (is_line_feed (get_or s i 0)) (h i (omega arith) low)) (λ within. absurd (omega (arith, within))))
