use Rattle.mono_steps.proofs.LeftOpen.{not_empty, no_opposites}
use Rattle.mono_steps.proofs.new_laws.new_clauses_are_plain.Goals as goal

pub returns-clause-nonempty : goal.returns-clause-nonempty
returns-clause-nonempty c = not_empty

pub returns-clause-one_sign : goal.returns-clause-one_sign
returns-clause-one_sign c = no_opposites
