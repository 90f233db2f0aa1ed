use Rattle.mono_clauses.proofs.FollowsKept.{follows_new}
use Rattle.mono_rows.proofs.GrowthRows.{waits_to_be_given, follows_at_its_level, follows_alone, lags_at_the_present_level, follows_alone_below}
use Rattle.mono_rows.proofs.clauses.stores_that_follow.Goals as goal

pub returns-clause-empty : goal.returns-clause-empty
returns-clause-empty c = follows_new _

pub returns-clause-not_yet_given : goal.returns-clause-not_yet_given
returns-clause-not_yet_given c = waits_to_be_given

pub returns-clause-same_level : goal.returns-clause-same_level
returns-clause-same_level c = follows_at_its_level

pub returns-clause-alone_at_level_0 : goal.returns-clause-alone_at_level_0
returns-clause-alone_at_level_0 c = follows_alone

pub returns-clause-present_level : goal.returns-clause-present_level
returns-clause-present_level c = lags_at_the_present_level

pub returns-clause-alone_below : goal.returns-clause-alone_below
returns-clause-alone_below c = follows_alone_below
