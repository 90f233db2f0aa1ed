use Rattle.mono_rows.proofs.PointRows.{two_steps, not_one_present, none_present, past_the_first, not_last}
use Rattle.mono_rows.proofs.learn.two_steps_to_the_point.Goals as goal

pub returns-clause-resolutions : goal.returns-clause-resolutions
returns-clause-resolutions c = two_steps

pub returns-clause-too_early : goal.returns-clause-too_early
returns-clause-too_early c = not_one_present

pub returns-clause-too_far : goal.returns-clause-too_far
returns-clause-too_far c = past_the_first

pub returns-clause-not_the_last : goal.returns-clause-not_the_last
returns-clause-not_the_last c = not_last

pub returns-clause-none_present : goal.returns-clause-none_present
returns-clause-none_present c = none_present
