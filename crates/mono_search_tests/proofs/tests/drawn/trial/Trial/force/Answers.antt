use Rattle.std.proofs.Common.{subst}
use Rattle.mono_theory.specs.Theories.{Facts, ForceIs}
use Rattle.mono_search_tests.proofs.tests.drawn.trial.Trial.force.Goals as goal

pub returns-clause-answer : goal.returns-clause-answer
returns-clause-answer g c = subst (λ (f : Facts). ForceIs f.graph f.atoms f.seen c.in_ok-forced.forced) c.self.view_is c.in_ok-forced.ensures.answer
