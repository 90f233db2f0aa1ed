use Rattle.mono_clauses.proofs.FollowsKept.{follows_imply}
use Rattle.mono_clauses.proofs.laws.implying_keeps.Goals as goal

pub returns : goal.returns
returns c = follows_imply
