use Rattle.std.proofs.Common.{refl, arith}
use Rattle.mono_distance.proofs.WorkedRows.{below_at_5, below_at_8, never_above}
use Rattle.mono_distance.proofs.worked.labels_below_each_walk.Goals as goal

pub returns-clause-exact : goal.returns-clause-exact
returns-clause-exact c = below_at_5

pub returns-clause-lower : goal.returns-clause-lower
returns-clause-lower c = record { below = λ ks h. omega arith; most = refl }

pub returns-clause-above_a_walk : goal.returns-clause-above_a_walk
returns-clause-above_a_walk c = never_above

pub returns-clause-unreached : goal.returns-clause-unreached
returns-clause-unreached c = below_at_8

pub returns-clause-too_great : goal.returns-clause-too_great
returns-clause-too_great c = λ h. let e = h.most in cc
