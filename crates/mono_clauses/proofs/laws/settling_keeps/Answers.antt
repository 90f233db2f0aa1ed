use Rattle.mono_clauses.proofs.FollowsKept.{follows_settle, below_settle}
use Rattle.mono_clauses.proofs.laws.settling_keeps.Goals as goal

pub returns-clause-follows : goal.returns-clause-follows
returns-clause-follows c = follows_settle

pub returns-clause-below : goal.returns-clause-below
returns-clause-below c = below_settle
