use Rattle.std.proofs.Common.{rules}
use Rattle.mono_trail.proofs.trail.begin.Goals as goal

pub returns-in-Decided-clause-level : goal.returns-in-Decided-clause-level
returns-in-Decided-clause-level c = search rules
