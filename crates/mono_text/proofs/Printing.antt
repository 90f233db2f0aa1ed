-- A line put together: a word and numbers that are appended piece by piece are the line.
use Rattle.std.proofs.Common.{◌≡◌, ℕ, List, [], ◌∷◌, ◌++◌, map, flat_map, codes, decimal, refl, ap, ◌∙◌, append_assoc}
use Rattle.mono_text.specs.Text.{spaced}

-- a word, each number behind a space, and a line feed
spaced-numbers : (word : List ℕ) (ns : List ℕ) → word ++ (flat_map (λ n. codes " " ++ decimal n) ns ++ 10 ∷ []) ≡ spaced (word ∷ map decimal ns)
spaced-numbers word [] = refl
spaced-numbers word (n ∷ ns) =
    ap (λ t. word ++ 32 ∷ t) (append_assoc (decimal n) (flat_map (λ n. codes " " ++ decimal n) ns) (10 ∷ []) ∙ spaced-numbers (decimal n) ns)

pub line_of_numbers : (out word ns : List ℕ) → ((out ++ word) ++ flat_map (λ n. codes " " ++ decimal n) ns) ++ 10 ∷ [] ≡ out ++ spaced (word ∷ map decimal ns)
line_of_numbers out word ns =
    append_assoc (out ++ word) (flat_map (λ n. codes " " ++ decimal n) ns) (10 ∷ [])
    ∙ (append_assoc out word (flat_map (λ n. codes " " ++ decimal n) ns ++ 10 ∷ []) ∙ ap (λ t. out ++ t) (spaced-numbers word ns))
