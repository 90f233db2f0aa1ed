-- What the lines of an input hold. A line is the list of its tokens.
use Rattle.std.specs.Prelude.{ℕ, Bool, false, not, ◌&&◌, ◌||◌, ◌==◌, if◌then◌else◌, ℤ, pos, List, [], ◌∷◌, length, fold, filter_map, flat_map, count_by, Option, Some, None, Result, Ok, Err, slice_index}
use Rattle.std.specs.List.{slice_split, list_any, enumerate_from}
use Rattle.std.specs.Char.{is_ascii_digit}
use Rattle.std.specs.Ordering.{int_eq}
use Rattle.mono_text.specs.Text.{is_skipped}
use Rattle.mono_text.specs.Numbers.{signed}
use Rattle.mono_gnf.specs.declared.fault.GnfFault.{GnfFault}
use Rattle.mono_gnf.specs.declared.statement.Statement.{Statement}
use Rattle.mono_gnf.specs.Statements.{statement_of}

-- ---- the kinds of lines

-- a first token that begins with a digit or with `-` makes a number line; any other line that isn't skipped is a word line
abbrev pub is_number_token : List ℕ → Bool
is_number_token t = is_ascii_digit (slice_index t 0) || slice_index t 0 == 45

abbrev pub begins_number : List (List ℕ) → Bool
begins_number [] = false
begins_number (t ∷ ts) = is_number_token t

abbrev pub is_number_line : List (List ℕ) → Bool
is_number_line line = not (is_skipped line) && begins_number line

abbrev pub is_word_line : List (List ℕ) → Bool
is_word_line line = not (is_skipped line) && not (begins_number line)

-- ---- number lines

abbrev pub line_numbers : List (List ℕ) → List ℤ
line_numbers line = if is_number_line line then filter_map signed line else []

-- the numbers of all number lines, in order
abbrev pub numbers_of : List (List (List ℕ)) → List ℤ
numbers_of lines = flat_map line_numbers lines

abbrev pub is_zero : ℤ → Bool
is_zero z = int_eq z (pos 0)

abbrev pub is_literal : ℤ → Bool
is_literal z = not (is_zero z)

abbrev pub all_but_last : List (List ℤ) → List (List ℤ)
all_but_last [] = []
all_but_last (c ∷ []) = []
all_but_last (c ∷ d ∷ cs) = c ∷ all_but_last (d ∷ cs)

abbrev pub last_of : List (List ℤ) → List ℤ
last_of [] = []
last_of (c ∷ []) = c
last_of (c ∷ d ∷ cs) = last_of (d ∷ cs)

-- each 0 ends a clause; the numbers behind the last 0 are the clause that is open
abbrev pub clauses_of : List ℤ → List (List ℤ)
clauses_of zs = all_but_last (slice_split is_zero zs)

abbrev pub open_clause : List ℤ → List ℤ
open_clause zs = last_of (slice_split is_zero zs)

abbrev pub is_within_clause : List ℤ → Bool
is_within_clause zs = not (length (open_clause zs) == 0)

abbrev pub literal_count : List ℤ → ℕ
literal_count zs = count_by is_literal zs

-- the number of the last line that has a literal, 0 where none has
abbrev pub last_literal_line : List (List (List ℕ)) → ℕ
last_literal_line lines = fold (λ last l. if list_any is_literal (line_numbers l.1) then l.0 else last) 0 (enumerate_from 1 lines)

-- ---- word lines

abbrev pub if_read : Result Statement GnfFault → Option Statement
if_read (Ok statement) = Some statement
if_read (Err f) = None

abbrev pub line_statement : List (List ℕ) → Option Statement
line_statement line = if is_word_line line then if_read (statement_of line) else None

-- what the word lines say, in order
abbrev pub statements_of : List (List (List ℕ)) → List Statement
statements_of lines = filter_map line_statement lines
