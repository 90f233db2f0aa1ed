use Rattle.std.proofs.Common.{◌≡◌, Bool, true, false, List, [], ◌∷◌, pos, refl, arith}
use Rattle.mono_steps.specs.WorkedLemmas.{minus}
use Rattle.mono_search.specs.Signs.{AreSigns}
use Rattle.mono_search.proofs.ModelSigns.{signs_first, signs_more}
use Rattle.mono_search.proofs.worked.signs_of_a_model.Goals as goal

abbrev model : List Bool
model = true ∷ true ∷ false ∷ []

two_signs : AreSigns model 2 (pos 1 ∷ pos 2 ∷ [])
two_signs = signs_more model 1 (pos 2) (pos 1 ∷ []) refl (signs_more model 0 (pos 1) [] refl (signs_first model))

pub returns-clause-each : goal.returns-clause-each
returns-clause-each c = signs_more model 2 (minus 3) (pos 1 ∷ pos 2 ∷ []) refl two_signs

pub returns-clause-first_two : goal.returns-clause-first_two
returns-clause-first_two c = two_signs

pub returns-clause-no_variables : goal.returns-clause-no_variables
returns-clause-no_variables c = signs_first []

pub returns-clause-turned : goal.returns-clause-turned
returns-clause-turned c = λ h. let e : minus 1 ≡ pos 1 = h.each 0 (omega arith) in cc

pub returns-clause-values_backward : goal.returns-clause-values_backward
returns-clause-values_backward c = λ h. let e : minus 1 ≡ pos 1 = h.each 0 (omega arith) in cc

pub returns-clause-turned_backward : goal.returns-clause-turned_backward
returns-clause-turned_backward c = λ h. let e : minus 2 ≡ pos 2 = h.each 1 (omega arith) in cc

pub returns-clause-variables_backward : goal.returns-clause-variables_backward
returns-clause-variables_backward c = λ h. let e : minus 3 ≡ pos 1 = h.each 0 (omega arith) in cc

pub returns-clause-fewer : goal.returns-clause-fewer
returns-clause-fewer c = λ h. let e : 2 ≡ 3 = h.count in omega (arith, e)

pub returns-clause-more : goal.returns-clause-more
returns-clause-more c = λ h. let e : 3 ≡ 2 = h.count in omega (arith, e)
