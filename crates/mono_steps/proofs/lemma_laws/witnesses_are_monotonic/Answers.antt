use Rattle.mono_steps.proofs.Witnessed.{passes-larger, passes-smaller, passes-same}
use Rattle.mono_steps.proofs.lemma_laws.witnesses_are_monotonic.Goals as goal

pub returns-clause-larger : goal.returns-clause-larger
returns-clause-larger c = passes-larger

pub returns-clause-smaller : goal.returns-clause-smaller
returns-clause-smaller c = passes-smaller

pub returns-clause-same : goal.returns-clause-same
returns-clause-same c = passes-same
