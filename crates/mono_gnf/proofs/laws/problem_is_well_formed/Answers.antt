use Rattle.mono_gnf.proofs.WellFormedReading.{stands_well_formed}
use Rattle.mono_gnf.proofs.laws.problem_is_well_formed.Goals as goal

pub returns : goal.returns
returns c = stands_well_formed
