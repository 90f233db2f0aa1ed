use Rattle.std.proofs.Common.{rules}
use Rattle.mono_problem.proofs.problem.lit_is_true.Goals as goal

pub returns-else-is_positive : goal.returns-else-is_positive
returns-else-is_positive c = search rules
