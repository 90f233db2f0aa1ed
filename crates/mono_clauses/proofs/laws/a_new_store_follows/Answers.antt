use Rattle.mono_clauses.proofs.FollowsKept.{follows_new}
use Rattle.mono_clauses.proofs.laws.a_new_store_follows.Goals as goal

pub returns : goal.returns
returns c = follows_new
