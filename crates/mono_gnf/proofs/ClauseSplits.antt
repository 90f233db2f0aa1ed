-- The clauses that numbers are, as one number after the other comes.
use Rattle.std.proofs.Common.{◌≡◌, ℕ, ◌+◌, ◌<◌, true, false, cond, not, ℤ, List, [], ◌∷◌, ◌++◌, length, refl, sym, ap, ◌∙◌, arith, sum_by}
use Rattle.std.specs.List.{slice_split, onto_first}
use Rattle.std.proofs.lemmas.List.Splits.{length-slice_split}
use Rattle.std.proofs.lemmas.List.Sums.{sum_by-cons, sum_by_push}
use Rattle.mono_gnf.specs.Lines.{is_zero, is_literal, all_but_last, last_of, clauses_of, open_clause, literal_count}

-- ---- lists of parts

all_but_last-push : (ps : List (List ℤ)) (c : List ℤ) → all_but_last (ps ++ c ∷ []) ≡ ps
all_but_last-push [] c = refl
all_but_last-push (p ∷ []) c = refl
all_but_last-push (p ∷ q ∷ ps) c = ap (λ (cs : List (List ℤ)). p ∷ cs) (all_but_last-push (q ∷ ps) c)

last_of-push : (ps : List (List ℤ)) (c : List ℤ) → last_of (ps ++ c ∷ []) ≡ c
last_of-push [] c = refl
last_of-push (p ∷ []) c = refl
last_of-push (p ∷ q ∷ ps) c = last_of-push (q ∷ ps) c

whole : (ps : List (List ℤ)) → 0 < length ps → ps ≡ all_but_last ps ++ last_of ps ∷ []
whole [] some = absurd (omega (arith, some))
whole (p ∷ []) some = refl
whole (p ∷ q ∷ ps) some = ap (λ (cs : List (List ℤ)). p ∷ cs) (whole (q ∷ ps) (omega arith))

onto_first-push : (x : ℤ) (ps : List (List ℤ)) (c : List ℤ) → 0 < length ps → onto_first x (ps ++ c ∷ []) ≡ onto_first x ps ++ c ∷ []
onto_first-push x [] c some = absurd (omega (arith, some))
onto_first-push x (p ∷ ps) c some = refl

-- a number more in the last part
abbrev onto_last : List (List ℤ) → ℤ → List (List ℤ)
onto_last ps z = all_but_last ps ++ (last_of ps ++ z ∷ []) ∷ []

onto_last-cons : (c : List ℤ) (ps : List (List ℤ)) (z : ℤ) → 0 < length ps → c ∷ onto_last ps z ≡ onto_last (c ∷ ps) z
onto_last-cons c [] z some = absurd (omega (arith, some))
onto_last-cons c (p ∷ ps) z some = refl

onto_last-first : (x : ℤ) (ps : List (List ℤ)) (z : ℤ) → 0 < length ps → onto_first x (onto_last ps z) ≡ onto_last (onto_first x ps) z
onto_last-first x [] z some = absurd (omega (arith, some))
onto_last-first x (p ∷ []) z some = refl
onto_last-first x (p ∷ q ∷ ps) z some = refl

-- ---- one number more

abbrev parts : List ℤ → List (List ℤ)
parts zs = slice_split is_zero zs

some_parts : (zs : List ℤ) → 0 < length (parts zs)
some_parts zs = omega (arith, length-slice_split is_zero zs)

parts-zero : (zs : List ℤ) (z : ℤ) → is_zero z ≡ true → parts (zs ++ z ∷ []) ≡ parts zs ++ [] ∷ []
parts-zero [] z h = rw h refl
parts-zero (x ∷ xs) z h =
    let rest = parts-zero xs z h in
    elim (is_zero x) as (λ b. cond b ([] ∷ parts (xs ++ z ∷ [])) (onto_first x (parts (xs ++ z ∷ []))) ≡ cond b ([] ∷ parts xs) (onto_first x (parts xs)) ++ [] ∷ []) [
      | true ↦ ap (λ (cs : List (List ℤ)). [] ∷ cs) rest
      | false ↦ ap (onto_first x) rest ∙ onto_first-push x (parts xs) [] (some_parts xs)
    ]

parts-literal : (zs : List ℤ) (z : ℤ) → is_zero z ≡ false → parts (zs ++ z ∷ []) ≡ onto_last (parts zs) z
parts-literal [] z h = rw h refl
parts-literal (x ∷ xs) z h =
    let rest = parts-literal xs z h in
    elim (is_zero x) as (λ b. cond b ([] ∷ parts (xs ++ z ∷ [])) (onto_first x (parts (xs ++ z ∷ []))) ≡ onto_last (cond b ([] ∷ parts xs) (onto_first x (parts xs))) z) [
      | true ↦ ap (λ (cs : List (List ℤ)). [] ∷ cs) rest ∙ onto_last-cons [] (parts xs) z (some_parts xs)
      | false ↦ ap (onto_first x) rest ∙ onto_last-first x (parts xs) z (some_parts xs)
    ]

pub clauses-zero : (zs : List ℤ) (z : ℤ) → is_zero z ≡ true → clauses_of (zs ++ z ∷ []) ≡ clauses_of zs ++ open_clause zs ∷ []
clauses-zero zs z h = ap all_but_last (parts-zero zs z h) ∙ (all_but_last-push (parts zs) [] ∙ whole (parts zs) (some_parts zs))

pub open-zero : (zs : List ℤ) (z : ℤ) → is_zero z ≡ true → open_clause (zs ++ z ∷ []) ≡ []
open-zero zs z h = ap last_of (parts-zero zs z h) ∙ last_of-push (parts zs) []

pub clauses-literal : (zs : List ℤ) (z : ℤ) → is_zero z ≡ false → clauses_of (zs ++ z ∷ []) ≡ clauses_of zs
clauses-literal zs z h = ap all_but_last (parts-literal zs z h) ∙ all_but_last-push (all_but_last (parts zs)) (last_of (parts zs) ++ z ∷ [])

pub open-literal : (zs : List ℤ) (z : ℤ) → is_zero z ≡ false → open_clause (zs ++ z ∷ []) ≡ open_clause zs ++ z ∷ []
open-literal zs z h = ap last_of (parts-literal zs z h) ∙ last_of-push (all_but_last (parts zs)) (last_of (parts zs) ++ z ∷ [])

-- ---- how many literals

abbrev total : List (List ℤ) → ℕ
total ps = sum_by (λ (c : List ℤ). length c) ps

total-first : (x : ℤ) (ps : List (List ℤ)) → 0 < length ps → total (onto_first x ps) ≡ 1 + total ps
total-first x [] some = absurd (omega (arith, some))
total-first x (p ∷ ps) some = omega (arith, sum_by-cons (λ (c : List ℤ). length c) (x ∷ p) ps, sum_by-cons (λ (c : List ℤ). length c) p ps)

total-parts : (zs : List ℤ) → total (parts zs) ≡ literal_count zs
total-parts [] = refl
total-parts (x ∷ xs) =
    let rest = total-parts xs in
    let first = total-first x (parts xs) (some_parts xs) in
    let none = sum_by-cons (λ (c : List ℤ). length c) [] (parts xs) in
    (elim (is_zero x) as (λ b. total (cond b ([] ∷ parts xs) (onto_first x (parts xs))) ≡ cond (not b) 1 0 + literal_count xs) [
      | true ↦ omega (arith, none, rest)
      | false ↦ omega (arith, first, rest)
    ]) ∙ sym (sum_by-cons (λ (z : ℤ). cond (is_literal z) 1 0) x xs)

-- the literals of the clauses and of the open clause are all of them
pub literals_in : (zs : List ℤ) → sum_by (λ (c : List ℤ). length c) (clauses_of zs) + length (open_clause zs) ≡ literal_count zs
literals_in zs =
    let split = sum_by_push (λ (c : List ℤ). length c) (all_but_last (parts zs)) (last_of (parts zs)) in
    let all = ap total (whole (parts zs) (some_parts zs)) in
    omega (arith, split, all, total-parts zs)
