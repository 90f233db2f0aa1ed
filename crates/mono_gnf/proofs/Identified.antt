-- Identities of graphs that differ: each is new behind those before it.
use Rattle.std.proofs.Common.{◌≡◌, ℕ, suc, ◌+◌, ◌<◌, ◌==◌, Bool, true, false, cond, not, ltb, List, [], ◌∷◌, ◌++◌, length, map, get_or, Some, None, IsNone, position, refl, ap, ◌∙◌, arith, append_assoc, length-append}
use Rattle.std.specs.List.{position_or_len}
use Rattle.std.proofs.lemmas.Bool.Decides.{nat_tests}
use Rattle.mono_graph.specs.Digraph.{Digraph}
use Rattle.mono_problem.specs.Instance.{no_graph}

place_in : (p : ℕ → Bool) (xs : List ℕ) (n : ℕ) → position p xs ≡ Some n → position_or_len p xs ≡ n
place_in p xs n h =
    (elim (ltb (position_or_len p xs) (length xs)) as (λ b. cond b (Some (position_or_len p xs)) None ≡ Some n → position_or_len p xs ≡ n) [
      | true ↦ λ k. cc
      | false ↦ λ k. absurd (cc)
    ]) h

place_front : (p : ℕ → Bool) (xs ys : List ℕ) → position_or_len p (xs ++ ys) ≡ length xs → position_or_len p xs ≡ length xs
place_front p [] ys h = refl
place_front p (x ∷ xs) ys h =
    (elim (p x) as (λ b. cond (not b) (1 + position_or_len p (xs ++ ys)) 0 ≡ suc (length xs) → cond (not b) (1 + position_or_len p xs) 0 ≡ suc (length xs)) [
      | true ↦ λ k. absurd (omega (arith, k))
      | false ↦ λ k. let front = place_front p xs ys (omega (arith, k)) in omega (arith, front)
    ]) h

none_before : (p : ℕ → Bool) (xs ys : List ℕ) → position p (xs ++ ys) ≡ Some (length xs) → IsNone (position p xs)
none_before p xs ys h =
    let front = place_front p xs ys (place_in p (xs ++ ys) (length xs) h) in
    let test : ltb (position_or_len p xs) (length xs) ≡ false = grind (arith, nat_tests) in
    rw test refl

-- the identities are different from each other and from the first ones
abbrev pub AreDistinct : List ℕ → List (ℕ × Digraph) → Type 0
AreDistinct ids [] = Unit {0}
AreDistinct ids (g ∷ gs) = IsNone (position (λ k. g.0 == k) ids) × AreDistinct (ids ++ g.0 ∷ []) gs

pub are_distinct : (ids : List ℕ) (gs : List (ℕ × Digraph))
    → ((k : ℕ) → k < length gs → position (λ i. (get_or gs k no_graph).0 == i) (ids ++ map (λ (g : ℕ × Digraph). g.0) gs) ≡ Some (length ids + k)) → AreDistinct ids gs
are_distinct ids [] h = tt
are_distinct ids (g ∷ gs) h =
    let rest = map (λ (g : ℕ × Digraph). g.0) gs in
    let none : length ids + 0 ≡ length ids = omega arith in
    let first = h 0 (omega arith) ∙ ap (λ (n : ℕ). Some n) none in (
      none_before (λ k. g.0 == k) ids (g.0 ∷ rest) first,
      are_distinct (ids ++ g.0 ∷ []) gs (λ k lt.
          let longer = length-append ids (g.0 ∷ []) in
          let at : length ids + suc k ≡ length (ids ++ g.0 ∷ []) + k = omega (arith, longer) in
          ap (position (λ i. (get_or gs k no_graph).0 == i)) (append_assoc ids (g.0 ∷ []) rest) ∙ (h (suc k) (omega (arith, lt)) ∙ ap (λ (n : ℕ). Some n) at)),
    )
