use Rattle.mono_problem.proofs.QuietAtoms.{quiet_atoms_all_agree}
use Rattle.mono_problem.proofs.laws.quiet_atoms_agree.Goals as goal

pub returns : goal.returns
returns c = quiet_atoms_all_agree
