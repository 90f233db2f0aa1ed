use Rattle.mono_steps.proofs.LemmaFaults.{shown_justified}
use Rattle.mono_steps.proofs.lemma_laws.shown_lemmas_are_justified.Goals as goal

pub returns : goal.returns
returns c = shown_justified
