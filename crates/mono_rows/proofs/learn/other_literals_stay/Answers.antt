use Rattle.mono_rows.proofs.LearnRows.{lower_stays, present_stays}
use Rattle.mono_rows.proofs.learn.other_literals_stay.Goals as goal

pub returns-clause-lower : goal.returns-clause-lower
returns-clause-lower c = lower_stays

pub returns-clause-present : goal.returns-clause-present
returns-clause-present c = present_stays
