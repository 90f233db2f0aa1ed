use Rattle.mono_rows.proofs.LearnRows.{taught}
use Rattle.mono_rows.proofs.learn.conflict_teaches_the_first_point.Goals as goal

pub returns : goal.returns
returns c = taught
