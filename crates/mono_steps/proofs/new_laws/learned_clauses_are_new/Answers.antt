use Rattle.mono_steps.proofs.LeftOpen.{learned_is_new}
use Rattle.mono_steps.proofs.new_laws.learned_clauses_are_new.Goals as goal

pub returns : goal.returns
returns c = learned_is_new
