-- Lines put together: what is appended piece by piece is the printed form.
use Rattle.std.proofs.Common.{◌≡◌, ℕ, ◌+◌, ◌<◌, List, [], ◌∷◌, ◌++◌, length, map, take, get_or, flat_map, codes, ℤ, refl, sym, ap, ◌∙◌, append_assoc, arith}
use Rattle.std.specs.Fmt.{signed_decimal}
use Rattle.std.proofs.lemmas.List.{flat_map_more, map-append, take_more}
use Rattle.std.proofs.lemmas.List.FromFn.{map-range_with_len_more}
use Rattle.mono_text.specs.Text.{spaced}
use Rattle.mono_problem.specs.Instance.{Instance}
use Rattle.mono_gnf.specs.Printed.{edge_line, edge_numbered, edges_up_to, clause_line}

-- ---- a clause

spaced-literal : (t : List ℕ) (c : List ℤ) → t ++ 32 ∷ spaced (clause_line c) ≡ spaced (t ∷ clause_line c)
spaced-literal t [] = refl
spaced-literal t (z ∷ zs) = refl

-- each literal before a space, and a 0
spaced-clause : (c : List ℤ) → flat_map (λ l. signed_decimal l ++ codes " ") c ++ codes "0\n" ≡ spaced (clause_line c)
spaced-clause [] = refl
spaced-clause (z ∷ zs) =
    append_assoc (signed_decimal z ++ codes " ") (flat_map (λ l. signed_decimal l ++ codes " ") zs) (codes "0\n")
    ∙ (ap (λ t. (signed_decimal z ++ codes " ") ++ t) (spaced-clause zs)
    ∙ (append_assoc (signed_decimal z) (codes " ") (spaced (clause_line zs)) ∙ spaced-literal (signed_decimal z) zs))

pub line_of_literals : (out : List ℕ) (c : List ℤ) → (out ++ flat_map (λ l. signed_decimal l ++ codes " ") c) ++ codes "0\n" ≡ out ++ spaced (clause_line c)
line_of_literals out c = append_assoc out (flat_map (λ l. signed_decimal l ++ codes " ") c) (codes "0\n") ∙ ap (λ t. out ++ t) (spaced-clause c)

-- ---- lines of one kind

module _ {A : Type 0} (line : A → List (List ℕ)) (out : List ℕ) where
  -- one line more
  lines_more : (xs : List A) (x : A) → (out ++ flat_map spaced (map line xs)) ++ spaced (line x) ≡ out ++ flat_map spaced (map line (xs ++ x ∷ []))
  lines_more xs x = flat_map_more spaced out (map line xs) (line x) ∙ ap (λ ls. out ++ flat_map spaced ls) (sym (map-append line xs (x ∷ [])))

  pub lines-take : (xs : List A) (i : ℕ) (d : A) → i < length xs → (out ++ flat_map spaced (map line (take i xs))) ++ spaced (line (get_or xs i d)) ≡ out ++ flat_map spaced (map line (take (i + 1) xs))
  lines-take xs i d h = lines_more (take i xs) (get_or xs i d) ∙ ap (λ xs. out ++ flat_map spaced (map line xs)) (sym (take_more xs i d h))

pub lines-edges : (out : List ℕ) (p : Instance) (n : ℕ) → (out ++ flat_map spaced (map edge_line (edges_up_to p n))) ++ spaced (edge_line (edge_numbered p (n + 1))) ≡ out ++ flat_map spaced (map edge_line (edges_up_to p (n + 1)))
lines-edges out p n =
    lines_more edge_line out (edges_up_to p n) (edge_numbered p (n + 1))
    ∙ ap (λ es. out ++ flat_map spaced (map edge_line es)) (sym (map-range_with_len_more (edge_numbered p) 1 n (n + 1) (omega arith)))
