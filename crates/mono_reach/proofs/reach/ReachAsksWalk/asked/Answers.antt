use Rattle.std.proofs.Common.{rules}
use Rattle.mono_reach.proofs.reach.ReachAsksWalk.asked.Goals as goal

pub returns : goal.returns
returns c = search rules
