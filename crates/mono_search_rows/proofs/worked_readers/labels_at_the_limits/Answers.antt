use Rattle.std.proofs.Common.{◌≤◌, [], ◌∷◌, refl, arith}
use Rattle.mono_search_rows.proofs.worked_readers.labels_at_the_limits.Goals as goal

pub returns-clause-one_step : goal.returns-clause-one_step
returns-clause-one_step c = λ h. let most : 2 ≤ 1 = h.below (0 ∷ []) refl in omega (arith, most)
