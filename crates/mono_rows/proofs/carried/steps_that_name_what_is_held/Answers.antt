use Rattle.std.proofs.Common.{ℕ, zero, suc, ◌<◌, ◌≤◌, [], ◌∷◌, get_or, arith}
use Rattle.mono_rows.proofs.carried.steps_that_name_what_is_held.Goals as goal

up_to_3 : (k d : ℕ) → k < 1 → get_or (3 ∷ []) k d ≤ 3
up_to_3 zero d lt = omega arith
up_to_3 (suc k) d lt = absurd (omega (arith, lt))

pub returns-clause-lemma : goal.returns-clause-lemma
returns-clause-lemma c = tt

pub returns-clause-last : goal.returns-clause-last
returns-clause-last c = up_to_3

pub returns-clause-beyond : goal.returns-clause-beyond
returns-clause-beyond c = λ h. let le : 4 ≤ 3 = h 0 0 (omega arith) in omega (arith, le)
