-- Numbers, as tokens write them in decimal digits.
use Rattle.std.specs.Prelude.{◌≡◌, ℕ, ◌+◌, ◌-◌, ◌*◌, not, ◌&&◌, ℤ, pos, neg_ℤ, nat_abs, List, [], ◌∷◌, fold, ◌==◌, nat_lt, if◌then◌else◌, Option, Some, None, option_map, Result, Ok, Err}
use Rattle.std.specs.List.{list_all}
use Rattle.std.specs.Char.{is_ascii_digit}
use Rattle.mono_text.specs.Text.{is_empty}
use Rattle.mono_text.specs.declared.number.NumberRefusal.{NumberRefusal}
use Rattle.mono_text.specs.declared.number.NumberRefusal.TheVariants as refusal

-- the number that digits stand for
abbrev pub digits_value : List ℕ → ℕ
digits_value t = fold (λ n b. 10 * n + (b - 48)) 0 t

-- one or more digits; zeros may lead
abbrev pub natural : List ℕ → Option ℕ
natural t = if not (is_empty t) && list_all is_ascii_digit t then Some (digits_value t) else None

-- a natural, or `-` directly before one
abbrev pub signed : List ℕ → Option ℤ
signed [] = None
signed (b ∷ bs) = if b == 45 then option_map (λ n. neg_ℤ (pos n)) (natural bs) else option_map pos (natural (b ∷ bs))

-- a natural up to a limit
abbrev pub within : ℕ → Option ℕ → Result ℕ NumberRefusal
within limit None = Err refusal.NotNumber
within limit (Some n) = if nat_lt limit n then Err refusal.TooLarge else Ok n

-- a signed number whose magnitude is up to a limit
abbrev pub signed_within : ℕ → Option ℤ → Result ℤ NumberRefusal
signed_within limit None = Err refusal.NotNumber
signed_within limit (Some z) = if nat_lt limit (nat_abs z) then Err refusal.TooLarge else Ok z

-- a magnitude with its sign, where it is a number
abbrev pub as_positive : Result ℕ NumberRefusal → Result ℤ NumberRefusal
as_positive (Ok n) = Ok (pos n)
as_positive (Err e) = Err e

abbrev pub as_negative : Result ℕ NumberRefusal → Result ℤ NumberRefusal
as_negative (Ok n) = Ok (neg_ℤ (pos n))
as_negative (Err e) = Err e

-- ---- the first token as a number, and the tokens behind it

abbrev pub IsFirstNatural : ℕ → List (List ℕ) → Option (Result ℕ NumberRefusal) → List (List ℕ) → Type 0
IsFirstNatural limit ts None rest = (ts ≡ []) × (rest ≡ [])
IsFirstNatural limit ts (Some r) rest = (t : List ℕ) × (ts ≡ t ∷ rest) × (r ≡ within limit (natural t))

abbrev pub IsFirstSigned : ℕ → List (List ℕ) → Option (Result ℤ NumberRefusal) → List (List ℕ) → Type 0
IsFirstSigned limit ts None rest = (ts ≡ []) × (rest ≡ [])
IsFirstSigned limit ts (Some r) rest = (t : List ℕ) × (ts ≡ t ∷ rest) × (r ≡ signed_within limit (signed t))
