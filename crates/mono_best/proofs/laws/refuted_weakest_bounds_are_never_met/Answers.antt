use Rattle.mono_best.proofs.Optimal.{never_met}
use Rattle.mono_best.proofs.laws.refuted_weakest_bounds_are_never_met.Goals as goal

pub returns : goal.returns
returns c = never_met
