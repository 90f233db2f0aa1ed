use Rattle.mono_steps.proofs.Propagation.{not_propagated}
use Rattle.mono_steps.proofs.new_laws.new_clauses_are_not_propagated.Goals as goal

pub returns : goal.returns
returns c = not_propagated
