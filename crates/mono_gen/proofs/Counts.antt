-- How many edges a board has.
use Rattle.std.proofs.Common.{◌≡◌, ℕ, zero, suc, ◌+◌, ◌-◌, ◌*◌, ◌<◌, ◌≤◌, ◌⊎◌, min, Bool, true, false, cond, ltb, ◌++◌, length, refl, ap, ◌∙◌, inl, inr, arith, length-append}
use Rattle.std.proofs.Math.Nat.{mul-zero}
use Rattle.std.proofs.lemmas.Bool.Decides.{nat_tests}
use Rattle.mono_gen.specs.Joined.{joined}
use Rattle.mono_gen.specs.Board.{node, edge_where, edges_from, edges_of_row, edges_of, edge_count}

-- ---- one node

-- 1 where a is less than b, and else 0
abbrev less_count : ℕ → ℕ → ℕ
less_count a b = cond (ltb a b) 1 0

less_cases : (a b : ℕ) → ((less_count a b ≡ 1) × (a < b)) ⊎ ((less_count a b ≡ 0) × (b ≤ a))
less_cases a b = by_test (ltb a b) refl
  where
    by_test : (t : Bool) → ltb a b ≡ t → ((◌≡◌ {A = ℕ} (cond t 1 0) 1) × (a < b)) ⊎ ((◌≡◌ {A = ℕ} (cond t 1 0) 0) × (b ≤ a))
    by_test true e = inl (refl, grind (arith, nat_tests, e))
    by_test false e = inr (refl, grind (arith, nat_tests, e))

length-where : (exists : Bool) (from to : ℕ) → length (edge_where exists from to) ≡ cond exists 1 0
length-where true from to = refl
length-where false from to = refl

-- edges down and up, which are the same for a whole row; edges right and left
abbrev upright : ℕ → ℕ → ℕ
upright n r = less_count (r + 1) n + less_count 0 r

length-from : (n r q : ℕ) → length (edges_from n r q) ≡ upright n q + upright n r
length-from n r q =
    let a = edge_where (ltb (q + 1) n) (node n r q) (node n r (q + 1)) in
    let b = edge_where (ltb (r + 1) n) (node n r q) (node n (r + 1) q) in
    let d = edge_where (ltb 0 q) (node n r q) (node n r (q - 1)) in
    let e = edge_where (ltb 0 r) (node n r q) (node n (r - 1) q) in
    omega (
      arith,
      length-append (a ++ b ++ d) e,
      length-append (a ++ b) d,
      length-append a b,
      length-where (ltb (q + 1) n) (node n r q) (node n r (q + 1)),
      length-where (ltb (r + 1) n) (node n r q) (node n (r + 1) q),
      length-where (ltb 0 q) (node n r q) (node n r (q - 1)),
      length-where (ltb 0 r) (node n r q) (node n (r - 1) q),
    )

-- ---- rows

-- how many edges right and left the first k nodes of a row have
abbrev along : ℕ → ℕ → ℕ
along n k = min k (n - 1) + (k - 1)

along_more : (n k : ℕ) → suc k ≤ n → along n (suc k) ≡ along n k + upright n k
along_more n k within = by_cases (less_cases (k + 1) n) (less_cases 0 k)
  where
    by_cases : ((less_count (k + 1) n ≡ 1) × (k + 1 < n)) ⊎ ((less_count (k + 1) n ≡ 0) × (n ≤ k + 1)) → ((less_count 0 k ≡ 1) × (0 < k)) ⊎ ((less_count 0 k ≡ 0) × (k ≤ 0)) → along n (suc k) ≡ along n k + upright n k
    by_cases (inl a) (inl b) = omega (arith, within, a.0, a.1, b.0, b.1)
    by_cases (inl a) (inr b) = omega (arith, within, a.0, a.1, b.0, b.1)
    by_cases (inr a) (inl b) = omega (arith, within, a.0, a.1, b.0, b.1)
    by_cases (inr a) (inr b) = omega (arith, within, a.0, a.1, b.0, b.1)

length-part_of_row : (n r k : ℕ) → k ≤ n → length (joined (λ q. edges_from n r q) k) ≡ along n k + k * upright n r
unfolding joined
length-part_of_row n r zero within = omega arith
length-part_of_row n r (suc k) within =
    let before = length-part_of_row n r k (omega (arith, within)) in
    let more : suc k * upright n r ≡ k * upright n r + upright n r = omega arith in
    omega (arith, length-append (joined (λ q. edges_from n r q) k) (edges_from n r k), before, length-from n r k, along_more n k within, more)

length-rows : (n k : ℕ) → k ≤ n → length (joined (λ r. edges_of_row n r) k) ≡ k * along n n + n * along n k
unfolding joined
length-rows n zero within =
    let start : along n 0 ≡ 0 = omega arith in
    let none : n * along n 0 ≡ 0 = ap (λ (x : ℕ). n * x) start ∙ mul-zero n in
    omega (arith, none)
length-rows n (suc k) within =
    let before = length-rows n k (omega (arith, within)) in
    let row = length-part_of_row n k n (omega arith) in
    let rows : suc k * along n n ≡ k * along n n + along n n = omega arith in
    let columns : n * along n (suc k) ≡ n * along n k + n * upright n k = ap (λ (x : ℕ). n * x) (along_more n k within) ∙ omega arith in
    omega (arith, length-append (joined (λ r. edges_of_row n r) k) (edges_of_row n k), before, row, rows, columns)

pub length-edges : (n : ℕ) → 1 ≤ n → length (edges_of n) ≡ edge_count n
length-edges n some =
    let all = length-rows n n (omega arith) in
    let sides : along n n ≡ 2 * (n - 1) = omega (arith, some) in
    let each : n * along n n ≡ 2 * (n * (n - 1)) = ap (λ (x : ℕ). n * x) sides ∙ omega arith in
    let whole : 4 * n * (n - 1) ≡ 4 * (n * (n - 1)) = omega arith in
    omega (arith, all, each, whole)
