-- Which variables stand in an order after some left it, and after one is given back.
use Rattle.std.proofs.Common.{◌≡◌, ℕ, zero, suc, ◌+◌, ◌<◌, ◌≤◌, Bool, true, false, List, [], ◌∷◌, length, get_or, set, refl, arith, inl, inr, subst}
use Rattle.std.specs.Prelude.{ℤ, pos, IsTrue}
use Rattle.std.proofs.lemmas.List.{get_or-set_same}
use Rattle.std.proofs.lemmas.Bool.{cases_eq}
use Rattle.mono_base.specs.Literal.{value_in}
use Rattle.mono_base.specs.Partial.{is_open_in}
use Rattle.mono_trail.specs.Order.{OrderView}

-- some variables left the order, all of which have values
pub record AssignedLeft (o r : OrderView) (t : List ℤ) : Type 0 where
  pub as_many : length r.waits ≡ length o.waits
  pub phases : r.phases ≡ o.phases
  pub stay : (w : ℕ) → IsTrue (is_open_in t (pos w)) → IsTrue (value_in o.waits w) → IsTrue (value_in r.waits w)
  pub none_new : (w : ℕ) → IsTrue (value_in r.waits w) → IsTrue (value_in o.waits w)

set_true : (ws : List Bool) (i k : ℕ) → get_or ws k false ≡ true → get_or (set ws i true) k false ≡ true
set_true [] i k h = h
set_true (w ∷ ws) zero zero h = refl
set_true (w ∷ ws) zero (suc k) h = h
set_true (w ∷ ws) (suc i) zero h = h
set_true (w ∷ ws) (suc i) (suc k) h = set_true ws i k h

-- what waits goes on waiting
pub still_waits : (ws : List Bool) (i v : ℕ) → IsTrue (value_in ws v) → IsTrue (value_in (set ws i true) v)
still_waits ws i zero h = h
still_waits ws i (suc k) h = set_true ws i k h

-- and the variable itself waits
pub waits_now : (ws : List Bool) (i v : ℕ) → v ≡ i + 1 → i < length ws → IsTrue (value_in (set ws i true) v)
waits_now ws i zero e lt = absurd (omega (arith, e))
waits_now ws i (suc k) e lt =
    let same : i ≡ k = omega (arith, e) in
    subst (λ (n : ℕ). get_or (set ws i true) n false ≡ true) same (get_or-set_same ws i true false lt)

-- variables are given back one by one
pub one_more_waits : (ws : List Bool) (n i : ℕ) → i ≡ n → n < length ws → ((v : ℕ) → 1 ≤ v → v ≤ n → IsTrue (value_in ws v)) → (v : ℕ) → 1 ≤ v → v ≤ n + 1 → IsTrue (value_in (set ws i true) v)
one_more_waits ws n i at lt h v low high = elim (cases_eq v (n + 1)) [
  | inl same ↦ waits_now ws i v (omega (arith, same, at)) (omega (arith, lt, at))
  | inr apart ↦ still_waits ws i v (h v low (omega (arith, high, apart)))
]
