use Rattle.std.proofs.Common.{rules}
use Rattle.mono_theory.proofs.stages.is_after.Goals as goal

pub returns-in-Shows-clause-up_to : goal.returns-in-Shows-clause-up_to
returns-in-Shows-clause-up_to c = search rules
