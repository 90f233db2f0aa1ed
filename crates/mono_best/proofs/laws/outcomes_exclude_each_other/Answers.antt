use Rattle.mono_best.proofs.Outcomes.{one_best, best_or_never, best_or_beyond, never_or_beyond}
use Rattle.mono_best.proofs.laws.outcomes_exclude_each_other.Goals as goal

pub returns-clause-one_best : goal.returns-clause-one_best
returns-clause-one_best c = one_best

pub returns-clause-best_or_never : goal.returns-clause-best_or_never
returns-clause-best_or_never c = best_or_never

pub returns-clause-best_or_beyond : goal.returns-clause-best_or_beyond
returns-clause-best_or_beyond c = best_or_beyond

pub returns-clause-never_or_beyond : goal.returns-clause-never_or_beyond
returns-clause-never_or_beyond c = never_or_beyond
