use Rattle.mono_learn.proofs.WorkedRows.{dropped}
use Rattle.mono_learn.proofs.worked.implied_literal_is_dropped.Goals as goal

pub returns : goal.returns
returns c = dropped
