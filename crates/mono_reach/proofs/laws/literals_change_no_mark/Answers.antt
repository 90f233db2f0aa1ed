use Rattle.mono_reach.proofs.ToldNodes.{marks_stay}
use Rattle.mono_reach.proofs.laws.literals_change_no_mark.Goals as goal

pub returns : goal.returns
returns c = marks_stay
