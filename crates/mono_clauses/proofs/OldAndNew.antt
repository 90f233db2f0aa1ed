-- A place of a list that grew by one is an old one or the last.
use Rattle.std.proofs.Common.{◌≡◌, ℕ, zero, suc, ◌+◌, ◌<◌, ◌⊎◌, inl, inr, ap, refl, arith}

pub old_or_new : (p n : ℕ) → p < n + 1 → (p < n) ⊎ (p ≡ n)
old_or_new zero zero lt = inr refl
old_or_new zero (suc n) lt = inl (omega arith)
old_or_new (suc p) zero lt = absurd (omega arith)
old_or_new (suc p) (suc n) lt = up (old_or_new p n (omega arith))
  where
    up : (p < n) ⊎ (p ≡ n) → (suc p < suc n) ⊎ (suc p ≡ suc n)
    up (inl a) = inl (omega arith)
    up (inr e) = inr (ap suc e)
