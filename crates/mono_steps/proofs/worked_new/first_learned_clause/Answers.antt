use Rattle.std.proofs.Common.{refl}
use Rattle.mono_steps.proofs.worked_new.first_learned_clause.Goals as goal
use Rattle.mono_steps.proofs.WorkedNew.{one_is_new}

pub returns : goal.returns
returns c = one_is_new _ refl refl refl
