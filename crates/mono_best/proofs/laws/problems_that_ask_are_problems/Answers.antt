use Rattle.mono_best.proofs.Asked.{asking-instance}
use Rattle.mono_best.proofs.laws.problems_that_ask_are_problems.Goals as goal

pub returns : goal.returns
returns c = asking-instance
