use Rattle.mono_base.proofs.Truth.{wider}
use Rattle.mono_base.proofs.laws.wider_clause_is_true.Goals as goal

pub returns : goal.returns
returns c = wider
