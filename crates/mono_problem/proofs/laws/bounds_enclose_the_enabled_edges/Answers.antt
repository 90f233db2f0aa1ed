use Rattle.mono_problem.proofs.Bounds.{under-enabled, enabled-over}
use Rattle.mono_problem.proofs.laws.bounds_enclose_the_enabled_edges.Goals as goal

pub returns-clause-surely : goal.returns-clause-surely
returns-clause-surely c = under-enabled

pub returns-clause-possibly : goal.returns-clause-possibly
returns-clause-possibly c = enabled-over
