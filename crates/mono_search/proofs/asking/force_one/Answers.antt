use Rattle.std.proofs.Common.{rules}
use Rattle.mono_search.proofs.asking.force_one.Goals as goal

pub returns-in-Literal-clause-answer : goal.returns-in-Literal-clause-answer
returns-in-Literal-clause-answer g c = search rules
