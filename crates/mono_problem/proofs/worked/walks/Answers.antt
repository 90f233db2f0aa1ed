use Rattle.std.proofs.Common.{[], ◌∷◌, refl, pos, negsuc}
use Rattle.mono_graph.specs.Worked.{label, pipe, both, first_alone}
use Rattle.mono_problem.proofs.WorkedFailures.{cut_fails, not_through, steps_fail, distance_fails}
use Rattle.mono_problem.proofs.worked.walks.Goals as goal

pub returns-clause-reached : goal.returns-clause-reached
returns-clause-reached c = (0 ∷ 1 ∷ [], refl)

pub returns-clause-itself : goal.returns-clause-itself
returns-clause-itself c = ([], refl)

pub returns-clause-not_back : goal.returns-clause-not_back
returns-clause-not_back c = cut_fails (pipe 3 2) both 2 0 (2 ∷ []) refl

pub returns-clause-absent : goal.returns-clause-absent
returns-clause-absent c = not_through first_alone refl

pub returns-clause-two_steps : goal.returns-clause-two_steps
returns-clause-two_steps c = (0 ∷ 1 ∷ [], refl)

pub returns-clause-not_one : goal.returns-clause-not_one
returns-clause-not_one c = steps_fail (pipe 3 2) both 0 2 (pos 1) (label 0 0 ∷ label 1 1 ∷ label 2 2 ∷ []) refl

pub returns-clause-weighs_five : goal.returns-clause-weighs_five
returns-clause-weighs_five c = (0 ∷ 1 ∷ [], refl)

pub returns-clause-not_four : goal.returns-clause-not_four
returns-clause-not_four c = distance_fails (pipe 3 2) both 0 2 (pos 4) (label 0 0 ∷ label 1 3 ∷ label 2 5 ∷ []) refl

pub returns-clause-never : goal.returns-clause-never
returns-clause-never c = steps_fail (pipe 3 2) both 1 1 (negsuc 0) [] refl
