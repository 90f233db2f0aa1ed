use Rattle.mono_problem.proofs.Assumed.{assuming-instance}
use Rattle.mono_problem.proofs.laws.problems_under_assumptions_are_problems.Goals as goal

pub returns : goal.returns
returns c = assuming-instance
