use Rattle.mono_learn.proofs.WorkedRows.{asked_for}
use Rattle.mono_learn.proofs.worked.lemma_is_asked_for.Goals as goal

pub returns : goal.returns
returns c = asked_for
