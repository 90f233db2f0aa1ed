-- Lines and tokens of a text.
use Rattle.std.specs.Prelude.{ℕ, Bool, true, false, not, ◌||◌, List, [], ◌∷◌, ◌++◌, filter, map, ◌==◌, if◌then◌else◌, codes, bytes_eq, Option, Some, None}
use Rattle.std.specs.List.{slice_split, enumerate_from}

abbrev pub is_empty : List ℕ → Bool
is_empty [] = true
is_empty (b ∷ bs) = false

-- ---- lines

abbrev pub is_line_feed : ℕ → Bool
is_line_feed b = b == 10

-- the pieces but for an empty last one
abbrev pub without_empty_end : List (List ℕ) → List (List ℕ)
without_empty_end [] = []
without_empty_end (x ∷ []) = if is_empty x then [] else x ∷ []
without_empty_end (x ∷ y ∷ more) = x ∷ without_empty_end (y ∷ more)

-- a line ends before a line feed or at the end of the text. An empty rest after the last line feed is no line
abbrev pub lines_of : List ℕ → List (List ℕ)
lines_of text = without_empty_end (slice_split is_line_feed text)

-- the lines, each beside its number, from the number n on
abbrev pub numbered_from : ℕ → List (List ℕ) → List (ℕ × List ℕ)
numbered_from n lines = enumerate_from n lines

-- ---- tokens

-- space, tab and carriage return; no other byte parts tokens
abbrev pub is_blank : ℕ → Bool
is_blank b = b == 32 || b == 9 || b == 13

-- a token is a longest run of bytes of a line that are no blanks
abbrev pub tokens_of : List ℕ → List (List ℕ)
tokens_of line = filter (λ t. not (is_empty t)) (slice_split is_blank line)

-- the byte that the first token begins with
abbrev pub first_byte : List (List ℕ) → Option ℕ
first_byte [] = None
first_byte ([] ∷ ts) = None
first_byte ((b ∷ bs) ∷ ts) = Some b

-- the lines as lists of tokens; line k stands at place k - 1
abbrev pub token_lines : List ℕ → List (List (List ℕ))
token_lines text = map tokens_of (lines_of text)

-- of a first token: one that is exactly `c` makes its line a comment
abbrev pub is_comment : List ℕ → Bool
is_comment t = bytes_eq t (codes "c")

-- of a line's tokens: a line without tokens is blank, and a comment says nothing either
abbrev pub is_skipped : List (List ℕ) → Bool
is_skipped [] = true
is_skipped (t ∷ ts) = is_comment t

-- ---- what is written

-- the line of these tokens: single spaces between them, and a line feed at the end
abbrev pub spaced : List (List ℕ) → List ℕ
spaced [] = 10 ∷ []
spaced (t ∷ []) = t ++ 10 ∷ []
spaced (t ∷ u ∷ more) = t ++ 32 ∷ spaced (u ∷ more)
