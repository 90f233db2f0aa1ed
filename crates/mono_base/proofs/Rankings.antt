-- A ranking in the order of its numbers.
use Rattle.std.proofs.Common.{◌≡◌, ℕ, zero, suc, ◌+◌, ◌<◌, List, [], ◌∷◌, ◌++◌, length, get_or, refl, ◌∙◌, ap, arith}
use Rattle.std.specs.List.{range_with_len}
use Rattle.std.proofs.lemmas.List.FromFn.{get_or-range_with_len, length-range_with_len}
use Rattle.mono_base.specs.Ranking.{AreInverse}

range_push : (a n : ℕ) → range_with_len a n ++ (a + n) ∷ [] ≡ range_with_len a (suc n)
range_push a zero = ap (λ (k : ℕ). k ∷ []) (omega arith)
range_push a (suc n) = ap (λ (ks : List ℕ). a ∷ ks) (ap (λ (k : ℕ). range_with_len (a + 1) n ++ k ∷ []) (omega arith) ∙ range_push (a + 1) n)

-- the next number comes last
pub range_more : (n : ℕ) → range_with_len 0 n ++ n ∷ [] ≡ range_with_len 0 (n + 1)
range_more n =
    let here : n ≡ 0 + n = omega arith in
    let next : suc n ≡ n + 1 = omega arith in
    ap (λ (k : ℕ). range_with_len 0 n ++ k ∷ []) here ∙ range_push 0 n ∙ ap (range_with_len 0) next

pub inverse_new : (n : ℕ) → AreInverse (range_with_len 0 n) (range_with_len 0 n)
inverse_new n = record {
  as_many = refl;
  listed = λ k lt. at k (omega (arith, lt, length-range_with_len 0 n));
  stands = λ k lt. at k (omega (arith, lt, length-range_with_len 0 n));
}
  where
    at : (k : ℕ) → k < n → (get_or (range_with_len 0 n) k 0 < length (range_with_len 0 n)) × (get_or (range_with_len 0 n) (get_or (range_with_len 0 n) k 0) 0 ≡ k)
    at k lt =
        let here : get_or (range_with_len 0 n) k 0 ≡ k = get_or-range_with_len 0 n k 0 lt ∙ omega arith in
        (omega (arith, here, lt, length-range_with_len 0 n), ap (λ (j : ℕ). get_or (range_with_len 0 n) j 0) here ∙ here)
