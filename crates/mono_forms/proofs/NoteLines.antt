-- Lines that `check` skips, put together: what is appended piece by piece behind `c` is the line.
use Rattle.std.proofs.Common.{◌≡◌, ℕ, List, [], ◌∷◌, ◌++◌, codes, refl, ap, ◌∙◌, append_assoc}
use Rattle.mono_text.specs.Text.{spaced}
use Rattle.mono_answer.specs.Behind.{behind}
use Rattle.mono_answer.proofs.Printing.{end_line}
use Rattle.mono_forms.specs.CoreTexts.{note}

-- a word, and tokens behind it
pub note_line : (out word : List ℕ) (ts : List (List ℕ)) → ((out ++ (codes "c " ++ word)) ++ behind ts) ++ 10 ∷ [] ≡ out ++ note (word ∷ ts)
note_line out word ts = end_line out (codes "c " ++ word) ts ∙ ap (λ (t : List ℕ). out ++ t) (by_tokens ts)
  where
    by_tokens : (us : List (List ℕ)) → spaced ((codes "c " ++ word) ∷ us) ≡ note (word ∷ us)
    by_tokens [] = refl
    by_tokens (u ∷ us) = refl

-- a word that is appended with the space behind it, a second one, and tokens behind that
pub note_of_two : (out first second : List ℕ) (ts : List (List ℕ))
    → (((out ++ (codes "c " ++ (first ++ 32 ∷ []))) ++ second) ++ behind ts) ++ 10 ∷ [] ≡ out ++ note (first ∷ second ∷ ts)
note_of_two out first second ts =
    ap (λ (t : List ℕ). (t ++ behind ts) ++ 10 ∷ []) (append_assoc out (codes "c " ++ (first ++ 32 ∷ [])) second ∙ ap (λ (t : List ℕ). out ++ (codes "c " ++ t)) (append_assoc first (32 ∷ []) second))
    ∙ (note_line out (first ++ 32 ∷ second) ts ∙ ap (λ (t : List ℕ). out ++ t) (by_tokens ts))
  where
    by_tokens : (us : List (List ℕ)) → note ((first ++ 32 ∷ second) ∷ us) ≡ note (first ∷ second ∷ us)
    by_tokens [] = ap (λ (t : List ℕ). codes "c " ++ t) (append_assoc first (32 ∷ second) (10 ∷ []))
    by_tokens (u ∷ us) = ap (λ (t : List ℕ). codes "c " ++ t) (append_assoc first (32 ∷ second) (32 ∷ spaced (u ∷ us)))

-- a word and a number, appended one after the other
pub bound_line : (out word w : List ℕ) → ((((out ++ codes "c ") ++ word) ++ 32 ∷ []) ++ w) ++ 10 ∷ [] ≡ out ++ note (word ∷ w ∷ [])
bound_line out word w =
    append_assoc (((out ++ codes "c ") ++ word) ++ 32 ∷ []) w (10 ∷ [])
    ∙ (append_assoc ((out ++ codes "c ") ++ word) (32 ∷ []) (w ++ 10 ∷ [])
    ∙ (append_assoc (out ++ codes "c ") word (32 ∷ (w ++ 10 ∷ []))
    ∙ append_assoc out (codes "c ") (word ++ 32 ∷ (w ++ 10 ∷ []))))

-- two lines and an answer, one after the other
pub two_lines : (out first second rest : List ℕ) → ((out ++ first) ++ second) ++ rest ≡ out ++ ((first ++ second) ++ rest)
two_lines out first second rest = ap (λ (t : List ℕ). t ++ rest) (append_assoc out first second) ∙ append_assoc out (first ++ second) rest
