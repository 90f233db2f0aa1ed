use Rattle.mono_steps.proofs.LemmaTruth.{lemma_true}
use Rattle.mono_steps.proofs.lemma_laws.lemmas_are_true.Goals as goal

pub returns : goal.returns
returns c = lemma_true
