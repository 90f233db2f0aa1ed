use Rattle.std.proofs.Common.{rules}
use Rattle.mono_problem.proofs.draft.all_uses.Goals as goal

pub returns : goal.returns
returns c = search rules
