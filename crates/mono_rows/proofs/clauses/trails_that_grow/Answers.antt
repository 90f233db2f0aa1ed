use Rattle.std.proofs.Common.{refl}
use Rattle.mono_clauses.specs.Propagation.{same}
use Rattle.mono_rows.proofs.GrowthRows.{grows_by_unit, grows_by_giving, not_without_clauses, not_beyond_the_end, not_by_deciding}
use Rattle.mono_rows.specs.TwoClauses.{decided}
use Rattle.mono_rows.proofs.clauses.trails_that_grow.Goals as goal

pub returns-clause-same : goal.returns-clause-same
returns-clause-same c = same (decided 1) refl

pub returns-clause-implied : goal.returns-clause-implied
returns-clause-implied c = grows_by_unit

pub returns-clause-given : goal.returns-clause-given
returns-clause-given c = grows_by_giving

pub returns-clause-no_clause : goal.returns-clause-no_clause
returns-clause-no_clause c = not_without_clauses

pub returns-clause-none_left : goal.returns-clause-none_left
returns-clause-none_left c = not_beyond_the_end

pub returns-clause-another_level : goal.returns-clause-another_level
returns-clause-another_level c = not_by_deciding
