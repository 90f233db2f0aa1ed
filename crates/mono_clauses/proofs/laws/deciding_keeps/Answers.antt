use Rattle.mono_clauses.proofs.FollowsKept.{follows_decide}
use Rattle.mono_clauses.proofs.laws.deciding_keeps.Goals as goal

pub returns : goal.returns
returns c = follows_decide
