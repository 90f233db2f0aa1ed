use Rattle.mono_learn.proofs.WorkedRows.{one_literal}
use Rattle.mono_learn.proofs.worked.learned_clause_has_one_literal_of_its_level.Goals as goal

pub returns : goal.returns
returns c = one_literal
