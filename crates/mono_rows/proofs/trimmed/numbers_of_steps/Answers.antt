use Rattle.std.proofs.Common.{◌≡◌, ◌<◌, ◌+◌, ℕ, zero, suc, false, true, [], ◌∷◌, refl, arith}
use Rattle.std.specs.Prelude.{slice_index_or}
use Rattle.mono_steps.specs.Renumbering.{rank}
use Rattle.mono_rows.proofs.trimmed.numbers_of_steps.Goals as goal

each : (k : ℕ) → k < 3 → slice_index_or (3 ∷ 3 ∷ 4 ∷ []) k 0 ≡ 2 + 1 + rank (false ∷ true ∷ false ∷ []) k
each zero lt = refl
each (suc zero) lt = refl
each (suc (suc zero)) lt = refl
each (suc (suc (suc k))) lt = absurd (omega (arith, lt))

pub returns-clause-numbers : goal.returns-clause-numbers
returns-clause-numbers c = record { as_many = refl; at = each }

pub returns-clause-none_goes : goal.returns-clause-none_goes
returns-clause-none_goes c = λ a. let e : 4 ≡ 3 = a.at 1 (omega arith) in omega (arith, e)

pub returns-clause-too_few : goal.returns-clause-too_few
returns-clause-too_few c = λ a. let e : 2 ≡ 3 = a.as_many in omega (arith, e)
