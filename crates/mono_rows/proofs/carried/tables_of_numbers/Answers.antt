use Rattle.std.proofs.Common.{◌≡◌, ℕ, zero, suc, ◌+◌, ◌-◌, ◌<◌, ◌≤◌, [], ◌∷◌, refl, arith}
use Rattle.std.specs.Prelude.{slice_index_or}
use Rattle.mono_steps.specs.Trimmed.{renumbered}
use Rattle.mono_rows.proofs.carried.tables_of_numbers.Goals as goal

low : (n : ℕ) → n ≤ 2 → renumbered 2 [] n ≡ n
low zero le = refl
low (suc zero) le = refl
low (suc (suc zero)) le = refl
low (suc (suc (suc n))) le = absurd (omega (arith, le))

high : (n : ℕ) → 2 < n → n ≤ 2 + 1 → slice_index_or (3 ∷ []) (n - 2 - 1) 0 ≡ renumbered 2 [] n
high zero lt le = absurd (omega (arith, lt))
high (suc zero) lt le = absurd (omega (arith, lt))
high (suc (suc zero)) lt le = absurd (omega (arith, lt))
high (suc (suc (suc zero))) lt le = refl
high (suc (suc (suc (suc n)))) lt le = absurd (omega (arith, le))

pub returns-clause-table : goal.returns-clause-table
returns-clause-table c = record { low = low; high = high }

pub returns-clause-another_below : goal.returns-clause-another_below
returns-clause-another_below c = λ t. let e : 3 ≡ 0 = t.low 0 (omega arith) in omega (arith, e)

pub returns-clause-another_in_it : goal.returns-clause-another_in_it
returns-clause-another_in_it c = λ t. let e : 5 ≡ 3 = t.high 3 (omega arith) (omega arith) in omega (arith, e)
