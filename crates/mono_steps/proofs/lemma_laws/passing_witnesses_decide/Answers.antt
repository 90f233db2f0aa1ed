use Rattle.mono_steps.proofs.Witnessed.{positive_holds, negative_excludes}
use Rattle.mono_steps.proofs.lemma_laws.passing_witnesses_decide.Goals as goal

pub returns-clause-holds : goal.returns-clause-holds
returns-clause-holds c = positive_holds

pub returns-clause-fails : goal.returns-clause-fails
returns-clause-fails c = negative_excludes
