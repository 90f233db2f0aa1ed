use Rattle.mono_clauses.proofs.FollowsKept.{follows_back}
use Rattle.mono_clauses.proofs.laws.going_back_keeps.Goals as goal

pub returns : goal.returns
returns c = follows_back
