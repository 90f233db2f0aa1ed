-- A board's edges lead from node to node, and there are few of them.
use Rattle.std.proofs.Common.{◌≡◌, ℕ, zero, suc, ◌+◌, ◌-◌, ◌*◌, ◌<◌, ◌≤◌, Bool, true, false, ltb, List, [], length, refl, arith}
use Rattle.std.specs.Prelude.{All}
use Rattle.std.proofs.Math.Nat.{mul-le-mul_left, mul-le-mul_right}
use Rattle.std.proofs.lemmas.Bool.Decides.{nat_tests}
use Rattle.std.proofs.lemmas.List.Elements.{All-append, All-nil, All-cons}
use Rattle.mono_gen.specs.Joined.{joined}
use Rattle.mono_gen.specs.Board.{node, edge_where, edges_from, edges_of_row, edges_of}
use Rattle.mono_gen.proofs.Counts.{length-edges}

-- ---- joined lists

All-joined : {A : Type 0} (P : A → Type 0) (f : ℕ → List A) (n k : ℕ) → ((j : ℕ) → j < n → All P (f j)) → k ≤ n → All P (joined f k)
unfolding joined
All-joined P f n zero each within = All-nil P
All-joined P f n (suc k) each within = All-append P (joined f k) (f k) (All-joined P f n k each (omega (arith, within))) (each k (omega (arith, within)))

-- ---- nodes

-- an edge leads from node to node of a board of n rows
abbrev pub IsOn : ℕ → ℕ × ℕ → Type 0
IsOn n e = (e.0 < n * n) × (e.1 < n * n)

on_board : (n r q : ℕ) → r < n → q < n → node n r q < n * n
on_board n r q low within =
    let rows : suc r * n ≤ n * n = mul-le-mul_right n low in
    let more : suc r * n ≡ r * n + n = omega arith in
    omega (arith, rows, more, within)

where_on : (n : ℕ) (exists : Bool) (from to : ℕ) → (exists ≡ true → IsOn n (from, to)) → All (IsOn n) (edge_where exists from to)
where_on n true from to on = All-cons (IsOn n) (from, to) [] (on refl) (All-nil (IsOn n))
where_on n false from to on = All-nil (IsOn n)

from_on : (n r q : ℕ) → r < n → q < n → All (IsOn n) (edges_from n r q)
from_on n r q low within =
    let here = on_board n r q low within in
    let right = where_on n (ltb (q + 1) n) (node n r q) (node n r (q + 1)) (λ is. (here, on_board n r (q + 1) low (grind (arith, nat_tests, is)))) in
    let down = where_on n (ltb (r + 1) n) (node n r q) (node n (r + 1) q) (λ is. (here, on_board n (r + 1) q (grind (arith, nat_tests, is)) within)) in
    let left = where_on n (ltb 0 q) (node n r q) (node n r (q - 1)) (λ is. (here, on_board n r (q - 1) low (omega (arith, within)))) in
    let up = where_on n (ltb 0 r) (node n r q) (node n (r - 1) q) (λ is. (here, on_board n (r - 1) q (omega (arith, low)) within)) in
    All-append (IsOn n) _ _ (All-append (IsOn n) _ _ (All-append (IsOn n) _ _ right down) left) up

pub edges_on : (n : ℕ) → All (IsOn n) (edges_of n)
edges_on n = All-joined (IsOn n) (λ r. edges_of_row n r) n n (λ r low. All-joined (IsOn n) (λ q. edges_from n r q) n n (λ q within. from_on n r q low within) (omega arith)) (omega arith)

-- ---- how many

few_counted : (n : ℕ) → 1 ≤ n → n ≤ 100 → length (edges_of n) ≤ 40000
few_counted n some few =
    let counted = length-edges n some in
    let wide : 4 * n * (n - 1) ≤ 4 * n * 100 = mul-le-mul_left (4 * n) (omega (arith, few)) in
    omega (arith, counted, wide, few)

pub few_edges : (n : ℕ) → n ≤ 100 → length (edges_of n) ≤ 40000
unfolding joined
few_edges zero few = omega arith
few_edges (suc m) few = few_counted (suc m) (omega arith) few
