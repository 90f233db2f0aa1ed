use Rattle.std.proofs.Common.{refl}
use Rattle.mono_cmd.proofs.worked_ends.worked_reached_alone.Goals as goal

pub returns-clause-solve : goal.returns-clause-solve
returns-clause-solve c = (refl, refl)

pub returns-clause-ask : goal.returns-clause-ask
returns-clause-ask c = (refl, refl)

pub returns-clause-team : goal.returns-clause-team
returns-clause-team c = (refl, refl)
