use Rattle.std.proofs.Common.{◌≡◌, ℕ, suc, zero, ◌<◌, [], ◌∷◌, refl, arith}
use Rattle.mono_dynamic.specs.Arrivals.{arrival_at, at_source}
use Rattle.mono_dynamic.specs.Worked.{arrival}
use Rattle.mono_dynamic.proofs.worked.edges_of_ways.Goals as goal

by_third : (i k : ℕ) → 0 < i → i < 2 → (arrival_at (at_source 0 ∷ arrival 1 3 0 0 ∷ []) i).place ≡ k → 3 ≡ k
by_third zero k pos lt e = absurd (omega arith)
by_third (suc zero) k pos lt e = e
by_third (suc (suc i)) k pos lt e = absurd (omega arith)

pub returns-clause-first : goal.returns-clause-first
returns-clause-first c = (1, omega arith, omega arith, refl)

pub returns-clause-last : goal.returns-clause-last
returns-clause-last c = (2, omega arith, omega arith, refl)

pub returns-clause-other : goal.returns-clause-other
returns-clause-other c = λ r. (let e = by_third r.0 1 r.1 r.2 r.3 in omega (arith, e))

pub returns-clause-of_source : goal.returns-clause-of_source
returns-clause-of_source c = λ r. (let e = by_third r.0 0 r.1 r.2 r.3 in omega (arith, e))
