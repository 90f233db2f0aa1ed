use Rattle.mono_problem.proofs.Monotone.{Holds-larger, Holds-smaller}
use Rattle.mono_problem.proofs.laws.predicates_are_monotonic.Goals as goal

pub returns-clause-rising : goal.returns-clause-rising
returns-clause-rising c = Holds-larger

pub returns-clause-falling : goal.returns-clause-falling
returns-clause-falling c = Holds-smaller
