use Rattle.std.proofs.Common.{arith}
use Rattle.mono_learn.proofs.WorkedRows.{goes_back, goes_back_no_lower, goes_back_no_higher}
use Rattle.mono_learn.proofs.worked.learned_clause_goes_back.Goals as goal

pub returns-clause-second : goal.returns-clause-second
returns-clause-second c = goes_back

pub returns-clause-start : goal.returns-clause-start
returns-clause-start c = goes_back_no_lower 0 (omega arith)

pub returns-clause-first : goal.returns-clause-first
returns-clause-first c = goes_back_no_lower 1 (omega arith)

pub returns-clause-present : goal.returns-clause-present
returns-clause-present c = goes_back_no_higher
