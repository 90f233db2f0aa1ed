use Rattle.std.proofs.Common.{[], ◌∷◌, refl, pos, negsuc}
use Rattle.mono_graph.specs.Worked.{triangle, pipe, lone, first_alone, all_three}
use Rattle.mono_problem.proofs.WorkedFailures.{split_fails, least_fails}
use Rattle.mono_problem.proofs.worked.spanning_trees.Goals as goal

pub returns-clause-three : goal.returns-clause-three
returns-clause-three c = (0 ∷ 1 ∷ [], refl)

pub returns-clause-not_two : goal.returns-clause-not_two
returns-clause-not_two c = least_fails (triangle 1 2 4) all_three (pos 2) (0 ∷ 1 ∷ []) refl

pub returns-clause-apart : goal.returns-clause-apart
returns-clause-apart c = split_fails (pipe 1 1) first_alone (pos 9) (2 ∷ []) refl

pub returns-clause-one_node : goal.returns-clause-one_node
returns-clause-one_node c = ([], refl)

pub returns-clause-never : goal.returns-clause-never
returns-clause-never c = least_fails lone [] (negsuc 0) [] refl
