use Rattle.std.proofs.Common.{◌≡◌, true, false, arith}
use Rattle.mono_theory.proofs.worked_definitions.sources_of_walks.Goals as goal

pub returns-clause-up_to_the_bound : goal.returns-clause-up_to_the_bound
returns-clause-up_to_the_bound c = λ s. let e : false ≡ true = s.beyond in cc

pub returns-clause-by_weight : goal.returns-clause-by_weight
returns-clause-by_weight c = λ s. let e : 2 ≡ 1 = s.alike in omega (arith, e)

pub returns-clause-from_the_last_node : goal.returns-clause-from_the_last_node
returns-clause-from_the_last_node c = λ s. let e : 7 ≡ 4 = s.node in omega (arith, e)
