-- The lines of a text and the tokens of a line, one after the other.
use Rattle.std.proofs.Common.{◌≡◌, ℕ, ◌+◌, ◌<◌, ◌≤◌, Bool, true, false, cond, not, List, [], ◌∷◌, length, take, drop, refl, sym, ap, ◌∙◌, arith, filter, inl, inr, get_or, Some, None, subst}
use Rattle.std.specs.List.{slice_split, onto_first, position_or_len, before_first, after_first}
use Rattle.std.proofs.Math.Numerals.{one-add, add-one}
use Rattle.std.proofs.lemmas.List.Sums.{count_by-le-length, length-filter}
use Rattle.std.proofs.lemmas.List.Splits.{length-slice_split}
use Rattle.std.proofs.lemmas.Bool.{cases_Bool}
use Rattle.mono_text.specs.Text.{is_blank, is_line_feed, is_empty, tokens_of, first_byte, lines_of, without_empty_end, numbered_from}

-- ---- the parts of a text

-- the parts after the first
abbrev other_parts : {X : Type 0} → (X → Bool) → List X → List (List X)
other_parts p [] = []
other_parts p (x ∷ xs) = cond (p x) (slice_split p xs) (other_parts p xs)

slice_split-first : {X : Type 0} (p : X → Bool) (xs : List X) → slice_split p xs ≡ before_first p xs ∷ other_parts p xs
slice_split-first p [] = refl
slice_split-first p (x ∷ xs) =
    elim (p x) as (λ b. cond b ([] ∷ slice_split p xs) (onto_first x (slice_split p xs)) ≡ take (cond (not b) (1 + position_or_len p xs) 0) (x ∷ xs) ∷ cond b (slice_split p xs) (other_parts p xs)) [
      | true ↦ refl
      | false ↦ rw (one-add) (ap (onto_first x) (slice_split-first p xs))
    ]

pub after_first-cons : {X : Type 0} (p : X → Bool) (x : X) (xs : List X) → after_first p (x ∷ xs) ≡ cond (p x) xs (after_first p xs)
after_first-cons p x xs =
    elim (p x) as (λ b. drop (cond (not b) (1 + position_or_len p xs) 0 + 1) (x ∷ xs) ≡ cond b xs (after_first p xs)) [
      | true ↦ refl
      | false ↦ rw (one-add, add-one) (rw add-one refl)
    ]

-- ---- tokens

some_tokens : (s : List ℕ) → filter (λ t. not (is_empty t)) (other_parts is_blank s) ≡ tokens_of (after_first is_blank s)
some_tokens [] = refl
some_tokens (b ∷ bs) =
    rw after_first-cons
    (elim (is_blank b) as (λ v. filter (λ t. not (is_empty t)) (cond v (slice_split is_blank bs) (other_parts is_blank bs)) ≡ tokens_of (cond v bs (after_first is_blank bs))) [
      | true ↦ refl
      | false ↦ some_tokens bs
    ])

-- the line from the first byte on that is no blank
abbrev pub from_token : List ℕ → List ℕ
from_token s = drop (position_or_len (λ b. not (is_blank b)) s) s

pub from_token-blank : (b : ℕ) (bs : List ℕ) → is_blank b ≡ true → from_token (b ∷ bs) ≡ from_token bs
from_token-blank b bs e = rw (e, one-add) refl

pub from_token-token : (b : ℕ) (bs : List ℕ) → is_blank b ≡ false → from_token (b ∷ bs) ≡ b ∷ bs
from_token-token b bs e = rw e refl

pub tokens_of-blank : (b : ℕ) (bs : List ℕ) → is_blank b ≡ true → tokens_of (b ∷ bs) ≡ tokens_of bs
tokens_of-blank b bs e = rw e refl

-- a line that begins with a token
pub tokens_of-token : (b : ℕ) (bs : List ℕ) → is_blank b ≡ false → tokens_of (b ∷ bs) ≡ before_first is_blank (b ∷ bs) ∷ tokens_of (after_first is_blank (b ∷ bs))
tokens_of-token b bs e =
    let start : before_first is_blank (b ∷ bs) ≡ b ∷ before_first is_blank bs = rw (e, one-add) refl in
    rw (slice_split-first, some_tokens, start) refl

-- what is left from the first byte on that is no blank begins with the first token
pub tokens_of-some : (s : List ℕ) → 0 < length (from_token s) → tokens_of s ≡ before_first is_blank (from_token s) ∷ tokens_of (after_first is_blank (from_token s))
tokens_of-some [] h = absurd (omega (arith, h))
tokens_of-some (b ∷ bs) h =
    elim (cases_Bool (is_blank b)) [
      | inl e ↦ rw (from_token-blank b bs e, tokens_of-blank b bs e) (tokens_of-some bs (omega (arith, h, ap length (from_token-blank b bs e))))
      | inr e ↦ rw (from_token-token b bs e) (tokens_of-token b bs e)
    ]

pub tokens_of-none : (s : List ℕ) → length (from_token s) ≡ 0 → tokens_of s ≡ []
tokens_of-none [] h = refl
tokens_of-none (b ∷ bs) h =
    elim (cases_Bool (is_blank b)) [
      | inl e ↦ tokens_of-blank b bs e ∙ tokens_of-none bs (ap length (sym (from_token-blank b bs e)) ∙ h)
      | inr e ↦ absurd (omega (arith, h, ap length (from_token-token b bs e)))
    ]

-- passing the blanks leaves the tokens
pub tokens_of-from : (s : List ℕ) → tokens_of (from_token s) ≡ tokens_of s
tokens_of-from [] = refl
tokens_of-from (b ∷ bs) =
    elim (cases_Bool (is_blank b)) [
      | inl e ↦ rw (from_token-blank b bs e, tokens_of-blank b bs e) (tokens_of-from bs)
      | inr e ↦ rw (from_token-token b bs e) refl
    ]

-- the first token begins with the first byte that is no blank
pub first_byte-some : (s : List ℕ) (d : ℕ) → 0 < length (from_token s) → first_byte (tokens_of s) ≡ Some (get_or (from_token s) 0 d)
first_byte-some [] d h = absurd (omega (arith, h))
first_byte-some (b ∷ bs) d h =
    elim (cases_Bool (is_blank b)) [
      | inl e ↦ rw (from_token-blank b bs e, tokens_of-blank b bs e) (first_byte-some bs d (omega (arith, h, ap length (from_token-blank b bs e))))
      | inr e ↦
          let start : before_first is_blank (b ∷ bs) ≡ b ∷ before_first is_blank bs = rw (e, one-add) refl in
          rw (from_token-token b bs e, tokens_of-token b bs e, start) refl
    ]

pub first_byte-none : (s : List ℕ) → length (from_token s) ≡ 0 → first_byte (tokens_of s) ≡ None
first_byte-none s h = ap first_byte (tokens_of-none s h)

-- ---- lines

-- the parts of a text are never none
slice_split-cons : {X : Type 0} (p : X → Bool) (xs : List X) → (x : List X) × (more : List (List X)) × (slice_split p xs ≡ x ∷ more)
slice_split-cons p xs = (before_first p xs, other_parts p xs, slice_split-first p xs)

pub more_lines : (x : List ℕ) (s : List ℕ) → without_empty_end (x ∷ slice_split is_line_feed s) ≡ x ∷ lines_of s
more_lines x s = let (y, more, e) = slice_split-cons is_line_feed s in rw e refl

rest_lines : (c : ℕ) (x : List ℕ) (s : List ℕ) → without_empty_end ((c ∷ x) ∷ other_parts is_line_feed s) ≡ (c ∷ x) ∷ lines_of (after_first is_line_feed s)
rest_lines c x [] = refl
rest_lines c x (b ∷ bs) =
    rw after_first-cons
    (elim (is_line_feed b) as (λ v. without_empty_end ((c ∷ x) ∷ cond v (slice_split is_line_feed bs) (other_parts is_line_feed bs)) ≡ (c ∷ x) ∷ lines_of (cond v bs (after_first is_line_feed bs))) [
      | true ↦ more_lines (c ∷ x) bs
      | false ↦ rest_lines c x bs
    ])

-- the first line of a text that isn't empty, and those after it
pub lines_of-first : (b : ℕ) (s : List ℕ) → lines_of (b ∷ s) ≡ before_first is_line_feed (b ∷ s) ∷ lines_of (after_first is_line_feed (b ∷ s))
lines_of-first b s =
    rw after_first-cons
    (elim (is_line_feed b) as (λ v. without_empty_end (cond v ([] ∷ slice_split is_line_feed s) (onto_first b (slice_split is_line_feed s))) ≡ take (cond (not v) (1 + position_or_len is_line_feed s) 0) (b ∷ s) ∷ lines_of (cond v s (after_first is_line_feed s))) [
      | true ↦ more_lines [] s
      | false ↦ rw (one-add, slice_split-first) (rest_lines b (before_first is_line_feed s) s)
    ])

-- the first line of a text that has bytes, and those after it
pub lines_of-some : (s : List ℕ) → 0 < length s → lines_of s ≡ before_first is_line_feed s ∷ lines_of (after_first is_line_feed s)
lines_of-some [] h = absurd (omega arith)
lines_of-some (b ∷ s) h = lines_of-first b s

-- nothing is left where nothing was left
pub lines_of-none : (n : ℕ) (s : List ℕ) → length s ≡ 0 → numbered_from n (lines_of s) ≡ []
lines_of-none n [] h = refl
lines_of-none n (b ∷ s) h = absurd (omega arith)

-- nothing left holds no tokens
pub tokens_of-empty : (s : List ℕ) → length s ≡ 0 → tokens_of s ≡ []
tokens_of-empty [] h = refl
tokens_of-empty (b ∷ bs) h = absurd (omega (arith, h))

-- where nothing is left behind the blanks, a line has no token, and what is left has none
pub none_left : (ts : List (List ℕ)) (s rest : List ℕ) → ts ≡ tokens_of s → rest ≡ from_token s → length rest ≡ 0 → (ts ≡ []) × (tokens_of rest ≡ [])
none_left ts s rest now passed empty = (now ∙ tokens_of-none s (ap length (sym passed) ∙ empty), tokens_of-empty rest empty)

-- what is left behind the blanks begins with the first token, and the others are behind it
pub first_left : (ts : List (List ℕ)) (s rest behind : List ℕ) → ts ≡ tokens_of s → rest ≡ from_token s → 0 < length rest → behind ≡ after_first is_blank rest
    → ts ≡ before_first is_blank rest ∷ tokens_of behind
first_left ts s rest behind now passed some cut = rw (cut, passed) (now ∙ tokens_of-some s (subst (λ (r : List ℕ). 0 < length r) passed some))

-- a line has no more tokens than bytes and one
pub length-tokens_of : (s : List ℕ) → length (tokens_of s) ≤ length s + 1
length-tokens_of s =
    let parts = length-slice_split is_blank s in
    let few = count_by-le-length is_blank s in
    let kept = length-filter (λ t. not (is_empty t)) (slice_split is_blank s) in
    let fewer = count_by-le-length (λ t. not (is_empty t)) (slice_split is_blank s) in
    omega arith
