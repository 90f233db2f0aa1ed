use Rattle.std.proofs.Common.{arith}
use Rattle.std.proofs.lemmas.Grind.{common_steps}
use Rattle.mono_clauses.proofs.chunks.remove.Goals as goal

pub returns-then-top-eq0-clause-is : goal.returns-then-top-eq0-clause-is
returns-then-top-eq0-clause-is c = grind (arith, common_steps)
