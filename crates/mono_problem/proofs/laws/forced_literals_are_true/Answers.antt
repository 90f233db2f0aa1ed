use Rattle.mono_problem.proofs.QuietAtoms.{forced_true}
use Rattle.mono_problem.proofs.laws.forced_literals_are_true.Goals as goal

pub returns : goal.returns
returns c = forced_true
