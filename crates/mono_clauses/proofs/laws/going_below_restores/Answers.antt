use Rattle.mono_clauses.proofs.FollowsKept.{follows_below_back}
use Rattle.mono_clauses.proofs.laws.going_below_restores.Goals as goal

pub returns : goal.returns
returns c = follows_below_back
