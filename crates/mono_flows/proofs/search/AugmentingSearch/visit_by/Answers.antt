use Rattle.std.proofs.Common.{arith}
use Rattle.std.proofs.lemmas.Grind.{common_steps}
use Rattle.mono_flows.proofs.search.AugmentingSearch.visit_by.Goals as goal

pub returns-clause-visit : goal.returns-clause-visit
returns-clause-visit c = grind (arith, common_steps)
