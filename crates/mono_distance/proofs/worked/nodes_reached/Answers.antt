use Rattle.std.proofs.Common.{[], ◌∷◌, refl, arith}
use Rattle.mono_distance.proofs.WorkedRows.{never_absent, never_below}
use Rattle.mono_distance.proofs.worked.nodes_reached.Goals as goal

pub returns-clause-exact : goal.returns-clause-exact
returns-clause-exact c = record { within = refl; walk = 0 ∷ []; leads = refl; cost = omega arith }

pub returns-clause-at_the_bound : goal.returns-clause-at_the_bound
returns-clause-at_the_bound c = record { within = refl; walk = 0 ∷ []; leads = refl; cost = omega arith }

pub returns-clause-below_each_walk : goal.returns-clause-below_each_walk
returns-clause-below_each_walk c = never_below

pub returns-clause-beyond_the_bound : goal.returns-clause-beyond_the_bound
returns-clause-beyond_the_bound c = λ h. let e = h.within in cc

pub returns-clause-edge_absent : goal.returns-clause-edge_absent
returns-clause-edge_absent c = never_absent

pub returns-clause-by_steps : goal.returns-clause-by_steps
returns-clause-by_steps c = record { within = refl; walk = 0 ∷ []; leads = refl; cost = omega arith }
