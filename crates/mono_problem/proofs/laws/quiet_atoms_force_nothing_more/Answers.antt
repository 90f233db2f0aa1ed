use Rattle.mono_problem.proofs.QuietAtoms.{quiet_forces_nothing_more, forced_is_nearly_quiet, quiet_by_forced}
use Rattle.mono_problem.proofs.laws.quiet_atoms_force_nothing_more.Goals as goal

pub returns-clause-forced : goal.returns-clause-forced
returns-clause-forced c = quiet_forces_nothing_more

pub returns-clause-nearly : goal.returns-clause-nearly
returns-clause-nearly c = forced_is_nearly_quiet

pub returns-clause-quiet : goal.returns-clause-quiet
returns-clause-quiet c = quiet_by_forced
