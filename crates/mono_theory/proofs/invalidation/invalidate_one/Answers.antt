use Rattle.std.proofs.Common.{rules}
use Rattle.mono_theory.proofs.invalidation.invalidate_one.Goals as goal

pub returns-else-rests_by-clause-gone : goal.returns-else-rests_by-clause-gone
returns-else-rests_by-clause-gone c = search rules
