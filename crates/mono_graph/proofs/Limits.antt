-- What walks cost, and the bounds of limits.
use Rattle.std.proofs.Common.{◌≡◌, ℕ, ◌<◌, ◌≤◌, true, List, [], ◌∷◌, length, sum_by, refl, sym, subst, arith, ℤ, pos, int_le, int_lt}
use Rattle.std.specs.Prelude.{IsTrue}
use Rattle.std.proofs.lemmas.List.Sums.{sum_by-cons}
use Rattle.std.proofs.lemmas.Int.{ints}
use Rattle.mono_graph.specs.declared.limit.Limit.{Limit}
use Rattle.mono_graph.specs.declared.limit.Limit.TheVariants as limit
use Rattle.mono_graph.specs.Digraph.{Digraph}
use Rattle.mono_graph.specs.Walks.{admits, is_light, cost_along}

pub zeros : (ks : List ℕ) → sum_by (λ (k : ℕ). 0) ks ≡ 0
zeros [] = refl
zeros (k ∷ ks) = rw (sum_by-cons (λ (k : ℕ). 0) k ks) (omega (arith, zeros ks))

pub ones : (ks : List ℕ) → sum_by (λ (k : ℕ). 1) ks ≡ length ks
ones [] = refl
ones (k ∷ ks) = rw (sum_by-cons (λ (k : ℕ). 1) k ks) (omega (arith, ones ks))

-- a walk is within a limit exactly where the limit admits what its edges cost together
pub light_of : (l : Limit) (g : Digraph) (ks : List ℕ) → IsTrue (admits l (cost_along l g ks)) → IsTrue (is_light l g ks)
light_of limit.Free g ks low = refl
light_of (limit.Steps most) g ks low = subst (λ (n : ℕ). IsTrue (int_le (pos n) most)) (ones ks) low
light_of (limit.Weight most) g ks low = low

pub of_light : (l : Limit) (g : Digraph) (ks : List ℕ) → IsTrue (is_light l g ks) → IsTrue (admits l (cost_along l g ks))
of_light limit.Free g ks low = subst (λ (n : ℕ). IsTrue (int_le (pos n) (pos 0))) (sym (zeros ks)) refl
of_light (limit.Steps most) g ks low = subst (λ (n : ℕ). IsTrue (int_le (pos n) most)) (sym (ones ks)) low
of_light (limit.Weight most) g ks low = low

-- what costs no more is within the bound too
pub low_enough : (n m : ℕ) (b : ℤ) → n ≤ m → IsTrue (int_le (pos m) b) → IsTrue (int_le (pos n) b)
low_enough n m b le h = grind (arith, ints)

-- what is within the bound is below each number above the bound
pub under_cap : (n c : ℕ) (b : ℤ) → IsTrue (int_le (pos n) b) → int_lt b (pos c) ≡ true → n < c
under_cap n c b h beyond = grind (arith, ints)
