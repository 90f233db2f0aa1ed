use Rattle.mono_problem.proofs.Bounds.{under-decided, over-decided}
use Rattle.mono_problem.proofs.laws.bounds_meet_where_all_edges_are_decided.Goals as goal

pub returns-clause-surely : goal.returns-clause-surely
returns-clause-surely c = under-decided

pub returns-clause-possibly : goal.returns-clause-possibly
returns-clause-possibly c = over-decided
