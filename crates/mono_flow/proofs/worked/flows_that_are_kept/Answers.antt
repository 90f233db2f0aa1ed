use Rattle.std.proofs.Common.{arith}
use Rattle.mono_flow.proofs.worked.flows_that_are_kept.Goals as goal

pub returns-clause-waits : goal.returns-clause-waits
returns-clause-waits c = λ h. let carried = h.carried in omega (arith, carried)

pub returns-clause-shows : goal.returns-clause-shows
returns-clause-shows c = λ h. let carried = h.carried in omega (arith, carried)
