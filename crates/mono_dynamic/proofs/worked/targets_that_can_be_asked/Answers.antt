use Rattle.std.proofs.Common.{◌≡◌, ◌<◌, refl, arith}
use Rattle.mono_dynamic.proofs.worked.targets_that_can_be_asked.Goals as goal

pub returns-clause-asked : goal.returns-clause-asked
returns-clause-asked c = record { known = omega arith; alike = refl; below = refl }

pub returns-clause-at_cap : goal.returns-clause-at_cap
returns-clause-at_cap c = λ t. (let e = t.below in cc)

pub returns-clause-by_steps : goal.returns-clause-by_steps
returns-clause-by_steps c = λ t. (let e : 1 ≡ 2 = t.alike in omega (arith, e))

pub returns-clause-no_node : goal.returns-clause-no_node
returns-clause-no_node c = λ t. (let e : 2 < 2 = t.known in omega (arith, e))
