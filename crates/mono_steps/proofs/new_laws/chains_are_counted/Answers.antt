use Rattle.mono_steps.proofs.JournalSteps.{full_count}
use Rattle.mono_steps.proofs.new_laws.chains_are_counted.Goals as goal

pub returns : goal.returns
returns c = full_count
