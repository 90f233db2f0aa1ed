-- A text that is written as lines of tokens is read as those lines of tokens.
use Rattle.std.proofs.Common.{◌≡◌, ℕ, false, not, List, [], ◌∷◌, ◌++◌, map, refl, sym, ap, ◌∙◌, flat_map, append_assoc, filter}
use Rattle.std.specs.List.{slice_split, onto_first}
use Rattle.mono_text.specs.Text.{is_blank, is_line_feed, is_empty, tokens_of, lines_of, token_lines, without_empty_end, spaced}
use Rattle.mono_text.proofs.Splits.{more_lines}

-- no byte parts tokens or lines
abbrev pub IsWord : List ℕ → Type 0
IsWord [] = Unit {0}
IsWord (b ∷ bs) = (is_blank b ≡ false) × (is_line_feed b ≡ false) × IsWord bs

-- some bytes, none of which parts tokens or lines
abbrev pub IsToken : List ℕ → Type 0
IsToken [] = ⊥
IsToken (b ∷ bs) = IsWord (b ∷ bs)

abbrev pub AreTokens : List (List ℕ) → Type 0
AreTokens [] = Unit {0}
AreTokens (t ∷ ts) = IsToken t × AreTokens ts

abbrev pub AreTokenLines : List (List (List ℕ)) → Type 0
AreTokenLines [] = Unit {0}
AreTokenLines (l ∷ ls) = AreTokens l × AreTokenLines ls

-- the pieces with single spaces between them
abbrev joined : List (List ℕ) → List ℕ
joined [] = []
joined (t ∷ []) = t
joined (t ∷ u ∷ more) = t ++ 32 ∷ joined (u ∷ more)

spaced-joined : (ts : List (List ℕ)) → spaced ts ≡ joined ts ++ 10 ∷ []
spaced-joined [] = refl
spaced-joined (t ∷ []) = refl
spaced-joined (t ∷ u ∷ more) = rw (spaced-joined (u ∷ more)) (sym (append_assoc t (32 ∷ joined (u ∷ more)) (10 ∷ [])))

split-word : (t rest : List ℕ) → IsWord t → slice_split is_blank (t ++ 32 ∷ rest) ≡ t ∷ slice_split is_blank rest
split-word [] rest h = refl
split-word (b ∷ bs) rest h = rw (h.0) (ap (onto_first b) (split-word bs rest h.2))

split-last : (t : List ℕ) → IsWord t → slice_split is_blank t ≡ t ∷ []
split-last [] h = refl
split-last (b ∷ bs) h = rw (h.0) (ap (onto_first b) (split-last bs h.2))

tokens_of-joined : (ts : List (List ℕ)) → AreTokens ts → tokens_of (joined ts) ≡ ts
tokens_of-joined [] h = refl
tokens_of-joined ([] ∷ ts) h = absurd h.0
tokens_of-joined ((b ∷ bs) ∷ []) h = ap (filter (λ t. not (is_empty t))) (split-last (b ∷ bs) h.0)
tokens_of-joined ((b ∷ bs) ∷ u ∷ more) h =
    ap (filter (λ t. not (is_empty t))) (split-word (b ∷ bs) (joined (u ∷ more)) h.0) ∙ ap (λ ts. (b ∷ bs) ∷ ts) (tokens_of-joined (u ∷ more) h.1)

-- no line feed
abbrev IsLine : List ℕ → Type 0
IsLine [] = Unit {0}
IsLine (b ∷ bs) = (is_line_feed b ≡ false) × IsLine bs

line-append : (t rest : List ℕ) → IsWord t → IsLine rest → IsLine (t ++ rest)
line-append [] rest h k = k
line-append (b ∷ bs) rest h k = (h.1, line-append bs rest h.2 k)

line-word : (t : List ℕ) → IsWord t → IsLine t
line-word [] h = tt
line-word (b ∷ bs) h = (h.1, line-word bs h.2)

line-joined : (ts : List (List ℕ)) → AreTokens ts → IsLine (joined ts)
line-joined [] h = tt
line-joined ([] ∷ ts) h = absurd h.0
line-joined ((b ∷ bs) ∷ []) h = line-word (b ∷ bs) h.0
line-joined ((b ∷ bs) ∷ u ∷ more) h = line-append (b ∷ bs) (32 ∷ joined (u ∷ more)) h.0 (refl, line-joined (u ∷ more) h.1)

split-line : (body rest : List ℕ) → IsLine body → slice_split is_line_feed (body ++ 10 ∷ rest) ≡ body ∷ slice_split is_line_feed rest
split-line [] rest h = refl
split-line (b ∷ bs) rest h = rw (h.0) (ap (onto_first b) (split-line bs rest h.1))

-- the first line of a text that begins with a line of tokens
pub lines_of-spaced : (ts : List (List ℕ)) (rest : List ℕ) → AreTokens ts → lines_of (spaced ts ++ rest) ≡ joined ts ∷ lines_of rest
lines_of-spaced ts rest h =
    ap lines_of (ap (λ l. l ++ rest) (spaced-joined ts) ∙ append_assoc (joined ts) (10 ∷ []) rest)
    ∙ (ap without_empty_end (split-line (joined ts) rest (line-joined ts h)) ∙ more_lines (joined ts) rest)

-- what is written as lines of tokens is read as those
pub token_lines-spaced : (ls : List (List (List ℕ))) → AreTokenLines ls → token_lines (flat_map spaced ls) ≡ ls
token_lines-spaced [] h = refl
token_lines-spaced (l ∷ ls) h =
    ap (map tokens_of) (lines_of-spaced l (flat_map spaced ls) h.0)
    ∙ (ap (λ t. t ∷ map tokens_of (lines_of (flat_map spaced ls))) (tokens_of-joined l h.0) ∙ ap (λ ts. l ∷ ts) (token_lines-spaced ls h.1))
