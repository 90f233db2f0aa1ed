use Rattle.std.proofs.Common.{[], refl, arith}
use Rattle.mono_distance.proofs.worked.other_nodes.Goals as goal

pub returns-clause-first_node : goal.returns-clause-first_node
returns-clause-first_node c = record { within = refl; walk = []; leads = refl; cost = omega arith }

pub returns-clause-above_the_empty_walk : goal.returns-clause-above_the_empty_walk
returns-clause-above_the_empty_walk c = λ h. let most = h.below [] refl in omega (arith, most)
