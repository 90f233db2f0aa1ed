use Rattle.mono_steps.proofs.NewPlaces.{new_by_place}
use Rattle.mono_steps.proofs.new_laws.new_step_by_step.Goals as goal

pub returns : goal.returns
returns c = new_by_place
