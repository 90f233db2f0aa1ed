use Rattle.mono_rows.proofs.LearnRows.{no_present_literal}
use Rattle.mono_rows.proofs.learn.learned_clause_has_a_literal_of_its_level.Goals as goal

pub returns : goal.returns
returns c = no_present_literal
