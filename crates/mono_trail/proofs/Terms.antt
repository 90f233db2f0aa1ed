-- The term of Luby's sequence at a place between two powers of two.
use Rattle.std.proofs.Common.{◌≡◌, ◌≢◌, ℕ, suc, ◌+◌, ◌-◌, ◌≤◌, ◌<◌, ◌^◌, arith, refl, ap, subst, sym, ◌∙◌, inl, inr}
use Rattle.std.proofs.Math.Pow.{pow_mono}
use Rattle.std.proofs.lemmas.Bool.{cases_lt}
use Rattle.std.proofs.Math.Nat.{pow-suc}
use Rattle.mono_trail.specs.Luby.{Luby}

-- the place lies from this power of two up to the next
pub record IsHighestPower (k p : ℕ) : Type 0 where
  pub digits : ℕ
  pub is : p ≡ 2 ^ digits
  pub low : p ≤ k
  pub high : k < 2 ^ suc digits

pub ends_there : (k p : ℕ) → IsHighestPower k p → k - p ≡ p - 1 → Luby k p
ends_there k p h e =
    let last : 2 ^ suc h.digits - 1 ≡ k = omega (arith, pow-suc 2 h.digits, h.is, h.low, h.high, e) in
    subst (λ (n : ℕ). Luby n p) last (subst (λ (v : ℕ). Luby (2 ^ suc h.digits - 1) v) (sym h.is) (Luby.whole h.digits))

pub goes_back : (k p v : ℕ) → IsHighestPower k p → k - p ≢ p - 1 → Luby (k - p + 1) v → Luby k v
goes_back k p v h n rest =
    Luby.again h.digits k v (omega (arith, h.is, h.low)) (omega (arith, pow-suc 2 h.digits, h.is, h.low, h.high, n)) (subst (λ (q : ℕ). Luby (k - q + 1) v) h.is rest)

-- ---- there is one term at each place

-- a power of two is told by the place that it is the highest power of
same_digits : (i j k : ℕ) → 2 ^ i ≤ k → k < 2 ^ suc i → 2 ^ j ≤ k → k < 2 ^ suc j → i ≡ j
same_digits i j k a b c d = elim (cases_lt i j) [
  | inl less ↦ absurd (let up = pow_mono {i = suc i} {j = j} less in omega (arith, up, b, c))
  | inr past ↦ (elim (cases_lt j i) [
    | inl less ↦ absurd (let up = pow_mono {i = suc j} {j = i} less in omega (arith, up, a, d))
    | inr same ↦ omega (arith, past, same)
  ])
]

data Opened (k v : ℕ) : Type 0 where
  at_end : (i : ℕ) → k ≡ 2 ^ suc i - 1 → v ≡ 2 ^ i → Opened k v
  before_end : (i : ℕ) → 2 ^ i ≤ k → k < 2 ^ suc i - 1 → Luby (k - 2 ^ i + 1) v → Opened k v

opened : {k v : ℕ} → Luby k v → Opened k v
opened (Luby.whole i) = at_end i refl refl
opened (Luby.again i k v low high rest) = before_end i low high rest

end_at : (i k : ℕ) → k ≡ 2 ^ suc i - 1 → (2 ^ i ≤ k) × (k < 2 ^ suc i)
end_at i k e = let twice = pow-suc 2 i in let some : 1 ≤ 2 ^ i = pow_mono {i = 0} {j = i} (omega arith) in (omega (arith, twice, some, e), omega (arith, twice, some, e))

-- the last place under a power of two is under no other as an earlier one
not_both : (i j k : ℕ) → k ≡ 2 ^ suc i - 1 → 2 ^ j ≤ k → k < 2 ^ suc j - 1 → ⊥
not_both i j k e low high =
    let last = end_at i k e in
    let same = same_digits i j k last.0 last.1 low (omega (arith, high)) in
    omega (arith, e, high, ap (λ (d : ℕ). 2 ^ suc d) same)

pub one_term : (k v w : ℕ) → Luby k v → Luby k w → v ≡ w
one_term k v w (Luby.whole i) m = by_other (opened m)
  where
    by_other : Opened (2 ^ suc i - 1) w → 2 ^ i ≡ w
    by_other (at_end j e f) =
        let here = end_at i (2 ^ suc i - 1) refl in
        let there = end_at j (2 ^ suc i - 1) e in
        ap (λ (d : ℕ). 2 ^ d) (same_digits i j (2 ^ suc i - 1) here.0 here.1 there.0 there.1) ∙ sym f
    by_other (before_end j low high rest) = absurd (not_both i j (2 ^ suc i - 1) refl low high)
one_term k v w (Luby.again i n u low high rest) m = by_other (opened m) (λ x l. one_term (n - 2 ^ i + 1) u x rest l)
  where
    by_other : Opened n w → ((x : ℕ) → Luby (n - 2 ^ i + 1) x → u ≡ x) → u ≡ w
    by_other (at_end j e f) ih = absurd (not_both j i n e low high)
    by_other (before_end j low' high' rest') ih = ih w (subst (λ (d : ℕ). Luby (n - 2 ^ d + 1) w) (same_digits j i n low' (omega (arith, high')) low (omega (arith, high))) rest')
