use Rattle.mono_steps.proofs.Witnessed.{passing_serves}
use Rattle.mono_steps.proofs.lemma_laws.passing_witnesses_serve.Goals as goal

pub returns : goal.returns
returns c = passing_serves
