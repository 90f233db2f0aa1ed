-- Fields: numbers in a row, each within the limit at its place.
use Rattle.std.specs.Prelude.{ℕ, ◌+◌, List, [], ◌∷◌, drop, length, nat_le, ◌==◌, nat_lt, if◌then◌else◌, Result, Ok, Err}
use Rattle.mono_text.specs.Numbers.{natural, within}
use Rattle.mono_text.specs.declared.number.NumberRefusal.{NumberRefusal}
use Rattle.mono_text.specs.declared.number.NumberRefusal.TheVariants as refusal
use Rattle.mono_text.specs.declared.field.FieldRefusal.{FieldRefusal}
use Rattle.mono_text.specs.declared.field.FieldRefusal.TheVariants as field

-- a refused number, by the place of its field
abbrev pub refused : ℕ → NumberRefusal → FieldRefusal
refused k refusal.NotNumber = field.NotNumber k
refused k refusal.TooLarge = field.TooLarge k

-- the number of the field at place k before the others, or the first refusal
abbrev pub onto : ℕ → Result ℕ NumberRefusal → Result (List ℕ) FieldRefusal → Result (List ℕ) FieldRefusal
onto k (Err e) others = Err (refused k e)
onto k (Ok n) (Err e) = Err e
onto k (Ok n) (Ok ns) = Ok (n ∷ ns)

-- the fields from the place k on, from the left
abbrev pub fields_from : ℕ → List ℕ → List (List ℕ) → Result (List ℕ) FieldRefusal
fields_from k [] ts = Ok []
fields_from k (limit ∷ limits) [] = Err field.Count
fields_from k (limit ∷ limits) (t ∷ ts) = onto k (within limit (natural t)) (fields_from (k + 1) limits ts)

-- the fields that the first tokens are, where there is a token for each limit
abbrev pub first_fields : List ℕ → List (List ℕ) → Result (List ℕ) FieldRefusal
first_fields limits ts = if nat_lt (length ts) (length limits) then Err field.Count else fields_from 0 limits ts

-- the fields that all tokens are, where there is exactly one for each limit
abbrev pub fields_of : List ℕ → List (List ℕ) → Result (List ℕ) FieldRefusal
fields_of limits ts = if length ts == length limits then fields_from 0 limits ts else Err field.Count

-- the fields that all tokens behind the first n are
abbrev pub fields_behind : ℕ → List ℕ → List (List ℕ) → Result (List ℕ) FieldRefusal
fields_behind n limits ts = if nat_le n (length ts) then fields_of limits (drop n ts) else Err field.Count
