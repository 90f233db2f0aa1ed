use Rattle.mono_check.proofs.Shifted.{versions_alike}
use Rattle.mono_check.proofs.laws.versions_are_judged_alike.Goals as goal

pub returns : goal.returns
returns c = versions_alike
