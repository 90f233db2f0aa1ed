use Rattle.std.proofs.Common.{◌<◌, arith}
use Rattle.mono_rows.proofs.LearnRows.{goes_back_first, goes_back_too_far_up, goes_back_to_start, goes_back_to_none}
use Rattle.mono_rows.proofs.learn.learned_clause_goes_back_as_far_as_it_may.Goals as goal

pub returns-clause-first : goal.returns-clause-first
returns-clause-first c = goes_back_first

pub returns-clause-second : goal.returns-clause-second
returns-clause-second c = goes_back_too_far_up

pub returns-clause-start : goal.returns-clause-start
returns-clause-start c = goes_back_to_start

pub returns-clause-not_first : goal.returns-clause-not_first
returns-clause-not_first c = goes_back_to_none

pub returns-clause-at_level_0 : goal.returns-clause-at_level_0
returns-clause-at_level_0 c = λ back h. let lt : back < 0 = h.lower in omega (arith, lt)
