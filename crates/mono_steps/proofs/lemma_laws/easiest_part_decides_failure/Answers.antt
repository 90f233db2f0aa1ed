use Rattle.mono_steps.proofs.Witnessed.{fails_everywhere}
use Rattle.mono_steps.proofs.lemma_laws.easiest_part_decides_failure.Goals as goal

pub returns : goal.returns
returns c = fails_everywhere
