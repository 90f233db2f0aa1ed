-- Rows of unit and false clauses, and of stores.
use Rattle.std.proofs.Common.{◌≡◌, ℕ, zero, suc, ◌<◌, ◌≤◌, List, [], ◌∷◌, ◌⊎◌, inl, inr, ℤ, pos, arith}
use Rattle.std.specs.Prelude.{IsTrue}
use Rattle.mono_base.specs.Literal.{has_lit, lit_at}
use Rattle.mono_base.specs.Partial.{is_open_in, is_false_clause, others_false}
use Rattle.mono_trail.specs.Places.{level_at}
use Rattle.mono_clauses.specs.Propagation.{IsUnitOf, IsFalseOf}
use Rattle.mono_clauses.specs.Store.{clause_at, IsTrueBy}
use Rattle.mono_steps.specs.WorkedLemmas.{minus}
use Rattle.mono_rows.specs.TwoClauses.{two_clauses, decided, implied, decided_again}

-- the clause of a number is unit, and it is false, where the number and the literals are these
abbrev UnitAt : ℕ → List ℤ → List ℤ → ℕ → ℤ → Type 0
UnitAt m c t n x = (m ≡ n) × IsTrue (has_lit c x) × IsTrue (is_open_in t x) × IsTrue (others_false t c x)

abbrev FalseAt : ℕ → List ℤ → List ℤ → ℕ → Type 0
FalseAt m c t n = (m ≡ n) × IsTrue (is_false_clause t c)

pub unit_at : (t : List ℤ) (n : ℕ) (x : ℤ) → IsUnitOf two_clauses t n x → UnitAt 4 (pos 1 ∷ pos 2 ∷ []) t n x ⊎ UnitAt 7 (minus 1 ∷ pos 3 ∷ []) t n x
unit_at t n x u = split u.place u.within u.number u.has u.is_open u.others
  where
    split : (k : ℕ) → k < 2 → (clause_at two_clauses k).number ≡ n → IsTrue (has_lit (clause_at two_clauses k).lits x) → IsTrue (is_open_in t x) → IsTrue (others_false t (clause_at two_clauses k).lits x) → UnitAt 4 (pos 1 ∷ pos 2 ∷ []) t n x ⊎ UnitAt 7 (minus 1 ∷ pos 3 ∷ []) t n x
    split zero lt a b c d = inl (a, b, c, d)
    split (suc zero) lt a b c d = inr (a, b, c, d)
    split (suc (suc k)) lt a b c d = absurd (omega (arith, lt))

pub false_at : (t : List ℤ) (n : ℕ) → IsFalseOf two_clauses t n → FalseAt 4 (pos 1 ∷ pos 2 ∷ []) t n ⊎ FalseAt 7 (minus 1 ∷ pos 3 ∷ []) t n
false_at t n u = split u.place u.within u.number u.is_false
  where
    split : (k : ℕ) → k < 2 → (clause_at two_clauses k).number ≡ n → IsTrue (is_false_clause t (clause_at two_clauses k).lits) → FalseAt 4 (pos 1 ∷ pos 2 ∷ []) t n ⊎ FalseAt 7 (minus 1 ∷ pos 3 ∷ []) t n
    split zero lt a b = inl (a, b)
    split (suc zero) lt a b = inr (a, b)
    split (suc (suc k)) lt a b = absurd (omega (arith, lt))

-- 2 isn't true yet, or at a level that is too high
pub never_true : (given level : ℕ) → IsTrueBy (decided given) (pos 2) level → ⊥
never_true given level b = at b.place b.within b.there
  where
    at : (k : ℕ) → k < 1 → lit_at (minus 1 ∷ []) k ≡ pos 2 → ⊥
    at zero lt e = cc
    at (suc k) lt e = omega (arith, lt)

pub never_true_again : (given level : ℕ) → IsTrueBy (decided_again (pos 3 ∷ []) given) (pos 2) level → ⊥
never_true_again given level b = at b.place b.within b.there
  where
    at : (k : ℕ) → k < 2 → lit_at (minus 1 ∷ pos 3 ∷ []) k ≡ pos 2 → ⊥
    at zero lt e = cc
    at (suc zero) lt e = cc
    at (suc (suc k)) lt e = omega (arith, lt)

pub true_too_high : (given level : ℕ) → level < 2 → IsTrueBy (decided_again (pos 2 ∷ []) given) (pos 2) level → ⊥
true_too_high given level low b = at b.place b.within b.there b.low
  where
    at : (k : ℕ) → k < 2 → lit_at (minus 1 ∷ pos 2 ∷ []) k ≡ pos 2 → level_at (decided_again (pos 2 ∷ []) given).marks k ≤ level → ⊥
    at zero lt e le = cc
    at (suc zero) lt e le = omega (arith, le, low)
    at (suc (suc k)) lt e le = omega (arith, lt)

pub implied_above_0 : (given : ℕ) → IsTrueBy (implied given) (pos 2) 0 → ⊥
implied_above_0 given b = at b.place b.within b.there b.low
  where
    at : (k : ℕ) → k < 2 → lit_at (minus 1 ∷ pos 2 ∷ []) k ≡ pos 2 → level_at (implied given).marks k ≤ 0 → ⊥
    at zero lt e le = cc
    at (suc zero) lt e le = omega (arith, le)
    at (suc (suc k)) lt e le = omega (arith, lt)
